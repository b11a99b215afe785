use Rattle.std.proofs.Common.{◌≡◌}
use Rattle.cfdp_pdus.specs.First.{fields_at, all_whole}
use Rattle.cfdp_pdus.proofs.field.check_fields.Given as goal

abbrev pub invariant-loop-read : goal.invariant-loop-read
invariant-loop-read l = all_whole l.read-iterator ≡ all_whole (fields_at l.octets)
