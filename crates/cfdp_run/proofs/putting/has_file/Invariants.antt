use Rattle.std.proofs.Common.{◌≡◌, drop}
use Rattle.std.specs.List.{list_any}
use Rattle.cfdp_actions.specs.Filestore.{is_file, node_at}
use Rattle.cfdp_run.proofs.putting.has_file.Given as goal

-- no path that was passed is a file
abbrev pub invariant-loop-path : goal.invariant-loop-path
invariant-loop-path l =
    list_any (λ q. is_file (node_at l.entity.filestore q)) (drop l.path-index l.paths) ≡ list_any (λ q. is_file (node_at l.entity.filestore q)) l.paths
