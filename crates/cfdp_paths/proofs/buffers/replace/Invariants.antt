use Rattle.std.proofs.Common.{◌≡◌, ◌==◌, cond, ◌++◌, map, take, drop}
use Rattle.cfdp_paths.proofs.buffers.replace.Given as goal

abbrev pub invariant-loop-octet : goal.invariant-loop-octet
invariant-loop-octet l =
    l.octets ≡ map (λ octet. cond (octet == l.old) l.new octet) (take l.octet-index l.fn.octets) ++ drop l.octet-index l.fn.octets
