use Rattle.std.proofs.Common.{sym, ap, ◌∙◌, ◌-◌, take}
use Rattle.std.specs.FinMap.{find, get}
use Rattle.cfdp_paths.specs.Paths.{path_cmp, parent}
use Rattle.cfdp_paths.proofs.Below.{parent-take}
use Rattle.cfdp_states.proofs.Counted.{find-map}
use Rattle.cfdp_states.proofs.sorted_extents.SortedExtents.parent.Goals as goal

pub returns : goal.returns
returns c =
    let p = c.args.path.now in
    c.copied.ensures ∙ c.get_beginning.ensures
    ∙ ap (λ n. find path_cmp (take (n - 1) p) c.self.inside.entries) c.depth.ensures.depth
    ∙ ap (λ q. find path_cmp q c.self.inside.entries) (sym (parent-take p))
    ∙ sym (find-map c.self.inside.entries c.self.invariant.ordered (parent p))
    ∙ ap (λ m. get m (parent p)) c.self.view_is
