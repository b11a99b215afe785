use Rattle.std.proofs.Common.{ap, subst, ◌∙◌}
use Rattle.std.specs.FinMap.{find}
use Rattle.std.specs.Option.{option_copied}
use Rattle.cfdp_paths.specs.Paths.{path_cmp}
use Rattle.cfdp_paths.specs.code.Paths.{path_in}
use Rattle.cfdp_paths.specs.code.PathMaps.{IsIndexOf}
use Rattle.cfdp_paths.proofs.InOrder.{value_at}
use Rattle.cfdp_paths.proofs.path_map.PathMap.find.Goals as goal

pub returns : goal.returns
returns g c =
    let k = path_in (option_copied c.args.sought) in
    value_at k c.self.inside.entries.items c.in-Ok.index c.index.result.now
    (subst (λ es. IsIndexOf k es c.in-Ok.index) c.deref.ensures.value c.in-Ok.ensures.found) c.index.ensures
    ∙ ap (find path_cmp k) c.self.view_is
