use Rattle.std.proofs.Common.{sym, ap, ◌∙◌}
use Rattle.std.specs.FinMap.{entries}
use Rattle.cfdp_paths.specs.PathMaps.{any_below}
use Rattle.cfdp_states.proofs.Counted.{entries-map}
use Rattle.cfdp_states.proofs.sorted_extents.SortedExtents.has_below.Goals as goal

pub returns : goal.returns
returns c =
    c.has_below.ensures ∙ ap (any_below c.args.path.now) (sym (entries-map c.self.inside.entries c.self.invariant.ordered) ∙ ap entries c.self.view_is)
