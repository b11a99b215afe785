use Rattle.std.proofs.Common.{◌≡◌, drop, map}
use Rattle.cfdp_receiver.specs.Sent.{as_sent, pdus_of}
use Rattle.cfdp_live.specs.code.Living.{with_sent}
use Rattle.cfdp_live.proofs.output.Output.push_pdus.Given as goal

abbrev pub invariant-loop-number : goal.invariant-loop-number
invariant-loop-number l =
    with_sent l.self (map (as_sent l.receiver.state.mib) (drop l.number (pdus_of l.receiver l.answer)))
    ≡ with_sent l.initial.self (map (as_sent l.receiver.state.mib) (pdus_of l.receiver l.answer))
