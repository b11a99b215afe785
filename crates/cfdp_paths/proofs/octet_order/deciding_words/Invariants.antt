use Rattle.std.proofs.Common.{◌-◌}
use Rattle.core.specs.Slice.Scan.{HoldsNowhere, differ}
use Rattle.cfdp_paths.proofs.octet_order.deciding_words.Given as goal

-- the octets before are equal
abbrev pub invariant-loop-start : goal.invariant-loop-start
invariant-loop-start l = HoldsNowhere (differ l.a l.b) 0 l.start

abbrev pub decreases-loop-start : goal.decreases-loop-start
decreases-loop-start l = l.last - l.start
