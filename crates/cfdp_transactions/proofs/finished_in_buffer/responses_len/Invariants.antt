use Rattle.std.proofs.Common.{◌≡◌, length, take, min}
use Rattle.std.specs.List.{flat_map}
use Rattle.cfdp_transactions.specs.code.FinishedInBuffer.{unperformed_field}
use Rattle.cfdp_transactions.proofs.finished_in_buffer.responses_len.Given as goal

abbrev pub invariant-loop-request : goal.invariant-loop-request
invariant-loop-request l = l.len ≡ min (length (flat_map unperformed_field (take l.request-index l.requests))) 18446744073709551615
