use Rattle.std.proofs.Common.{◌≡◌, ◌++◌, drop, false}
use Rattle.cfdp_receiver.specs.Sent.{pdus_of}
use Rattle.cfdp_receiver.specs.StateMachine.{is_last}
use Rattle.cfdp_reports.specs.Reports.{send_lines}
use Rattle.cfdp_reports.proofs.answers.push_pdus.Given as goal

-- no PDU of an answer is written that is not the last one
abbrev pub invariant-loop-number : goal.invariant-loop-number
invariant-loop-number l =
    (l.text.items ++ send_lines l.receiver.state.mib (drop l.number (pdus_of l.receiver l.answer))
    ≡ l.initial.text.items ++ send_lines l.receiver.state.mib (pdus_of l.receiver l.answer))
    × (is_last l.receiver l.answer ≡ false → l.number ≡ 0)
