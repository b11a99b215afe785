use Rattle.std.proofs.Common.{◌≡◌, ◌≤◌, length, vec_len, vec_capacity}
use Rattle.cfdp_pdus.specs.code.Counting.{responses_in_fields}
use Rattle.cfdp_pdus.specs.First.{fields_at}
use Rattle.cfdp_pdus.proofs.CountSteps.{joined}
use Rattle.cfdp_pdus.proofs.field.copy_responses.Given as goal

abbrev pub invariant-loop-read : goal.invariant-loop-read
invariant-loop-read l = record {
  copied : joined l.responses.items (responses_in_fields l.read-iterator) ≡ responses_in_fields (fields_at l.octets);
  len : vec_len l.responses ≡ length l.responses.items;
  room : l.count ≤ vec_capacity l.responses;
}
