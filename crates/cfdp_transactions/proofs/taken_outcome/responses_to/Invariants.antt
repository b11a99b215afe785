use Rattle.std.proofs.Common.{◌≡◌, ◌≤◌, ◌-◌, ◌+◌, ◌++◌, length}
use Rattle.std.specs.Prelude.{vec_capacity, vec_len}
use Rattle.cfdp_transactions.specs.Outcome.{responses_of}
use Rattle.cfdp_transactions.specs.code.TakenOutcome.{statuses_of}
use Rattle.cfdp_transactions.proofs.taken_outcome.responses_to.Given as goal

-- the responses that are made, and those to what is left; and there is room for these
abbrev pub invariant-loop-request : goal.invariant-loop-request
invariant-loop-request l =
    let rest = l.request-iterator.rest.items in
    let left = l.fn.performed - vec_len l.responses in
    record {
      all : l.responses.items ++ responses_of rest (statuses_of left rest) ≡ responses_of l.fn.requests.items (statuses_of l.fn.performed l.fn.requests.items);
      room : vec_len l.responses + length rest ≤ vec_capacity l.responses;
    }
