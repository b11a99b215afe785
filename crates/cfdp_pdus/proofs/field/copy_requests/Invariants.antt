use Rattle.std.proofs.Common.{◌≡◌, ◌≤◌, length, vec_len, vec_capacity}
use Rattle.cfdp_pdus.specs.First.{fields_at, requests_of}
use Rattle.cfdp_pdus.proofs.CountSteps.{joined}
use Rattle.cfdp_pdus.proofs.field.copy_requests.Given as goal

abbrev pub invariant-loop-read : goal.invariant-loop-read
invariant-loop-read l = record {
  copied : joined l.requests.items (requests_of l.read-iterator) ≡ requests_of (fields_at l.octets);
  len : vec_len l.requests ≡ length l.requests.items;
  room : l.count ≤ vec_capacity l.requests;
}
