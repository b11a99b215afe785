use Rattle.std.proofs.Common.{◌≡◌, ◌+◌, true, length}
use Rattle.std.specs.List.{flat_map, list_all}
use Rattle.cfdp_pdus.specs.Canonical.{is_short_response, response_field}
use Rattle.cfdp_pdus.specs.BufferParts.{with_octets_at}
use Rattle.cfdp_transactions.specs.Outcome.{responses_of}
use Rattle.cfdp_transactions.specs.code.TakenOutcome.{statuses_of}
use Rattle.cfdp_transactions.proofs.FinishedPdus.ResponsesPut.{responses_from}
use Rattle.cfdp_transactions.proofs.finished_in_buffer.put_responses.Given as goal

-- what is written, and the responses to the requests that are left after it
abbrev pub invariant-loop-index : goal.invariant-loop-index
invariant-loop-index l =
    let rest = responses_from l.requests l.performed l.index in
    let all = responses_of l.requests (statuses_of l.performed l.requests) in
    record {
      short : list_all is_short_response rest ≡ true;
      offset : l.end + length (flat_map response_field rest) ≡ l.at + length (flat_map response_field all);
      written : with_octets_at l.out l.end (flat_map response_field rest) ≡ with_octets_at l.fn.out l.at (flat_map response_field all);
    }
