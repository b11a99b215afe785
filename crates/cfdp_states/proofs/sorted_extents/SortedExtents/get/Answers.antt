use Rattle.std.proofs.Common.{sym, ap, ◌∙◌}
use Rattle.std.specs.FinMap.{get}
use Rattle.cfdp_states.proofs.Counted.{find-map}
use Rattle.cfdp_states.proofs.sorted_extents.SortedExtents.get.Goals as goal

pub returns : goal.returns
returns c =
    c.copied.ensures ∙ c.get.ensures ∙ sym (find-map c.self.inside.entries c.self.invariant.ordered c.args.path.now)
    ∙ ap (λ m. get m c.args.path.now) c.self.view_is
