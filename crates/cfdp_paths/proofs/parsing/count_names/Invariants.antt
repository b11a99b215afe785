use Rattle.cfdp_paths.proofs.Scanning.{Scan}
use Rattle.cfdp_paths.proofs.parsing.count_names.Given as goal

abbrev pub invariant-loop-index : goal.invariant-loop-index
invariant-loop-index l = Scan l.fn.octets l.names l.count l.start l.index l.holds_zero
