use Rattle.std.proofs.Common.{ℕ, ◌+◌, nat_lt, List, length, sym, ap, ◌∙◌}
use Rattle.std.specs.List.{list_any}
use Rattle.cfdp_paths.specs.Paths.{Path}
use Rattle.cfdp_paths.specs.PathMaps.{tree_in}
use Rattle.cfdp_paths.proofs.Moving.{by_depths}
use Rattle.tests_stores.proofs.tests.octets.paths.maps.relocate.Goals as goal

pub relocate-requires : goal.relocate-requires
relocate-requires c =
    by_depths c.args.from.now c.args.to.now (tree_in c.args.from.now c.args.map.now) c.depth.ensures.within.few
    ∙ ap (λ (es : List (Path × ℕ)). list_any (λ e. nat_lt (8 + length c.args.from.now) (length e.0 + length c.args.to.now)) es) (sym c.tree.ensures)
    ∙ sym c.is_too_deep.ensures ∙ c.if-is_too_deep.false
