use Rattle.std.proofs.Common.{◌≡◌, ◌+◌, ◌≤◌, length}
use Rattle.cfdp_pdus.specs.code.Counting.{count_read}
use Rattle.cfdp_pdus.specs.First.{fields_at, requests_of}
use Rattle.cfdp_pdus.proofs.CountSteps.{counted}
use Rattle.cfdp_pdus.proofs.field.count_requests.Given as goal

abbrev pub invariant-loop-read : goal.invariant-loop-read
invariant-loop-read l = record {
  found : counted l.count (requests_of l.read-iterator) ≡ count_read (requests_of (fields_at l.octets));
  small : l.count + length l.read-iterator ≤ length l.octets;
}
