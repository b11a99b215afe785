use Rattle.std.proofs.Common.{◌≡◌, ◌+◌, ◌≤◌, length}
use Rattle.cfdp_pdus.specs.code.Counting.{outcome_count}
use Rattle.cfdp_pdus.specs.First.{fields_at, outcome_fields}
use Rattle.cfdp_pdus.proofs.OutcomeLoop.{counted_outcome}
use Rattle.cfdp_pdus.proofs.field.count_responses.Given as goal

abbrev pub invariant-loop-read : goal.invariant-loop-read
invariant-loop-read l = record {
  found : counted_outcome l.count l.fault (outcome_fields l.read-iterator) ≡ outcome_count (fields_at l.octets);
  small : l.count + length l.read-iterator ≤ length l.octets;
}
