use Rattle.std.proofs.Common.{ap, not, ◌∙◌}
use Rattle.std.specs.List.{list_any}
use Rattle.cfdp_paths.specs.Paths.{same_path}
use Rattle.cfdp_paths.proofs.Pieces.{any_below-tree}
use Rattle.cfdp_paths.proofs.path_map.PathMap.has_below.Goals as goal

pub returns : goal.returns
returns g c =
    c.has_other.ensures ∙ ap (list_any (λ e. not (same_path e.0 c.args.path.now))) c.tree.ensures ∙ any_below-tree c.args.path.now c.args.self.now
