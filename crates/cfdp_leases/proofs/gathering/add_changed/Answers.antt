use Rattle.std.proofs.Common.{◌∷◌, []}
use Rattle.cfdp_leases.proofs.Ordered.{and_then}
use Rattle.cfdp_leases.proofs.gathering.add_changed.Goals as goal

pub returns-in_ok-add-in-RenameFile-clause-added : goal.returns-in_ok-add-in-RenameFile-clause-added
returns-in_ok-add-in-RenameFile-clause-added c =
    rw c.in-RenameFile.is
    (and_then c.add-in-RenameFile.result c.args.paths.now.items c.add.new.paths.items c.add-in-RenameFile.new.paths.items (c.in-RenameFile.from ∷ [])
    (c.in-RenameFile.to ∷ []) c.in_ok-add-in-RenameFile.ensures.added c.add-in-RenameFile.ensures.added)
