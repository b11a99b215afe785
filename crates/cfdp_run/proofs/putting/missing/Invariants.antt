use Rattle.std.proofs.Common.{◌≡◌, ◌++◌, drop}
use Rattle.std.specs.Prelude.{is_none}
use Rattle.std.specs.List.{filter}
use Rattle.cfdp_actions.specs.Filestore.{node_at}
use Rattle.cfdp_run.proofs.putting.missing.Given as goal

abbrev pub invariant-loop-parent : goal.invariant-loop-parent
invariant-loop-parent l =
    l.paths.items ++ filter (λ q. is_none (node_at l.entity.filestore q)) (drop l.parent-index l.parent-items)
    ≡ filter (λ q. is_none (node_at l.entity.filestore q)) l.parent-items
