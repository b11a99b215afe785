use Rattle.std.proofs.Common.{sym, ◌∙◌, subst}
use Rattle.std.proofs.lemmas.Result.{on_ok_weaker}
use Rattle.cfdp_paths.specs.Paths.{same_path}
use Rattle.cfdp_states.specs.Sketching.{Extents}
use Rattle.cfdp_states.specs.code.Sketching.{AddsWhere}
use Rattle.cfdp_states.proofs.Surveys.{adds_one, adds_none}
use Rattle.cfdp_states.proofs.survey.add_extent.Goals as goal

pub returns-in-None : goal.returns-in-None
returns-in-None g c =
    let F = (g.S.Filestore.state c.args.store.now).filestore in
    adds_none F c.args.extents.now c.args.path.now (sym c.extent_at.ensures ∙ c.in-None.is)

pub returns-in-Some : goal.returns-in-Some
returns-in-Some g c =
    let F = (g.S.Filestore.state c.args.store.now).filestore in
    let m = c.args.extents.now in
    let path = c.args.path.now in
    on_ok_weaker c.put.result (λ put. subst (λ (n : Extents). AddsWhere (λ p. same_path p path) F m n) (sym put)
    (adds_one F m path c.in-Some.extent (sym c.extent_at.ensures ∙ c.in-Some.is))) c.put.ensures.ok
