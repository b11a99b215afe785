use Rattle.std.proofs.Common.{◌≡◌, ◌-◌, ◌++◌, drop}
use Rattle.cfdp_transactions.specs.Outcome.{responses_of}
use Rattle.cfdp_transactions.specs.code.TakenOutcome.{statuses_of}
use Rattle.cfdp_transactions.proofs.taken_outcome.make_responses.Given as goal

abbrev pub invariant-loop-index : goal.invariant-loop-index
invariant-loop-index l =
    l.responses.items ++ responses_of (drop l.index l.requests) (statuses_of (l.performed - l.index) (drop l.index l.requests))
    ≡ responses_of l.requests (statuses_of l.performed l.requests)
