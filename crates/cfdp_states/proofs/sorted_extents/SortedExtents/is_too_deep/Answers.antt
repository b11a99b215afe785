use Rattle.std.proofs.Common.{ap, ◌+◌, ◌∙◌, nat_lt, length}
use Rattle.std.specs.List.{list_any}
use Rattle.cfdp_paths.specs.PathMaps.{is_too_deep, tree_in}
use Rattle.cfdp_states.proofs.Counted.{deep-tree, kept_entries}
use Rattle.cfdp_states.proofs.sorted_extents.SortedExtents.is_too_deep.Goals as goal

pub returns : goal.returns
returns c =
    let p = c.args.from.now in
    let q = c.args.to.now in
    c.any_too_deep.ensures ∙ ap (list_any (λ e. nat_lt (8 + length p) (length e.0 + length q))) c.tree.ensures
    ∙ deep-tree p q c.self.inside.entries
    ∙ ap (λ es. is_too_deep p q (tree_in p es)) (kept_entries c.self.inside.entries c.self.inside.used c.args.self.now c.self.invariant c.self.view_is)
