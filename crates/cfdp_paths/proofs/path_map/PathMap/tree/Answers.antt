use Rattle.std.proofs.Common.{ap, ◌∙◌}
use Rattle.std.specs.List.{between}
use Rattle.cfdp_paths.specs.PathMaps.{tree_in}
use Rattle.cfdp_paths.proofs.Pieces.{tree_between}
use Rattle.cfdp_paths.proofs.path_map.PathMap.tree.Goals as goal

pub returns : goal.returns
returns g c =
    ap (between c.piece-start.result.0 c.piece-start.result.1) c.deref-2.ensures.value
    ∙ tree_between c.args.path.now c.self.inside.entries.items c.deref.result.now c.piece-start.result.0 c.piece-start.result.1 c.self.invariant
    c.deref.ensures.value c.piece-start.ensures
    ∙ ap (tree_in c.args.path.now) c.self.view_is
