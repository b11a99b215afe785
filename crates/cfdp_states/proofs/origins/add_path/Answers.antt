use Rattle.std.proofs.Common.{sym, ◌∙◌, ap}
use Rattle.std.specs.List.{list_any}
use Rattle.cfdp_paths.specs.Paths.{same_path}
use Rattle.cfdp_states.proofs.SparsePaths.{contained_same}
use Rattle.cfdp_states.proofs.origins.add_path.Goals as goal

pub returns-else-not-contains-clause-added : goal.returns-else-not-contains-clause-added
returns-else-not-contains-clause-added c =
    contained_same c.args.path.now c.args.paths.now.items
    (ap (list_any (λ y. same_path y c.args.path.now)) (sym c.deref.ensures.value) ∙ sym c.contains.ensures.value ∙ rw c.if-not-contains.false)
