use Rattle.core.specs.Slice.Scan.{HoldsNowhere, differ}
use Rattle.cfdp_paths.proofs.octet_order.deciding_octets.Given as goal

-- the octets before are equal
abbrev pub invariant-loop-index : goal.invariant-loop-index
invariant-loop-index l = HoldsNowhere (differ l.a l.b) 0 l.index
