use Rattle.std.proofs.Common.{refl, sym, subst, []}
use Rattle.cfdp_actions.specs.Filestore.{blocks}
use Rattle.cfdp_states.specs.Alone.{alone}
use Rattle.cfdp_states.specs.code.Sketching.{total_blocks}
use Rattle.cfdp_states.specs.Views.{Sketch, only, IsViewOf}
use Rattle.cfdp_states.proofs.Surveyed.{view_of}
use Rattle.cfdp_states.proofs.view.View.of.Goals as goal

pub returns-clause-stated : goal.returns-clause-stated
returns-clause-stated g c =
    let F = (g.S.Filestore.state c.args.store.now).filestore in
    let G = alone (only c.args.footprint.now F) [] in
    let m = c.in_ok-extents.extents in
    subst (λ (v : Sketch). IsViewOf v G (blocks G) (blocks G) 0) (sym c.begun.ensures)
    (view_of c.args.footprint.now F c.args.protected.now m (total_blocks m) c.in_ok-extents.ensures.extents c.in_ok-extents.ensures.small refl)
