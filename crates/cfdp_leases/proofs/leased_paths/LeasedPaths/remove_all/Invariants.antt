use Rattle.std.proofs.Common.{take, List}
use Rattle.std.specs.List.{list_any}
use Rattle.cfdp_paths.specs.Paths.{Path, same_path}
use Rattle.cfdp_leases.specs.declared.leased_paths.Holder.{Holder}
use Rattle.cfdp_leases.specs.code.Holders.{Holds}
use Rattle.cfdp_leases.proofs.Held.{left}
use Rattle.cfdp_leases.proofs.leased_paths.LeasedPaths.remove_all.Given as goal

-- the transaction has left the paths so far
abbrev pub invariant-loop-path : goal.invariant-loop-path
invariant-loop-path l =
    (holders : Path → List Holder) → Holds l.initial.self holders → Holds l.self
    (λ p. left l.transaction (list_any (same_path p) (take l.path-index l.paths)) (holders p))
