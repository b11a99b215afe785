use Rattle.std.proofs.Common.{◌≡◌, ◌≤◌, None, Some, sym, ◌∙◌, subst, length, replicate}
use Rattle.std.proofs.lemmas.Result.{err_from_is_err_and}
use Rattle.cfdp_quota.specs.Budget.{spare}
use Rattle.cfdp_leases.specs.Footprint.{footprint_of}
use Rattle.cfdp_leases.specs.Items.{items_of}
use Rattle.cfdp_verifier.specs.Verdict.{Verdict, judged_apart}
use Rattle.cfdp_verifier.specs.code.Judging.{RefusesSo}
use Rattle.cfdp_verifier.proofs.Tested.{past_tests}
use Rattle.cfdp_verifier.proofs.verifying.find_grant.Goals as goal

pub returns-in-Some : goal.returns-in-Some
returns-in-Some g c =
    let few : length c.args.proposal.now.requests ≤ 64 = c.requires.few in
    let leased : c.in_ok-footprint.footprint ≡ footprint_of (items_of c.in_ok-items.items.destination c.in_ok-items.items.requests.items) =
    rw (c.as_ref.ensures.value, c.deref.ensures.value) at c.in_ok-footprint.ensures in
    past_tests c.args.protected.now (g.S.Filestore.state c.args.store.now).filestore c.args.leases.now (spare c.args.quota.now) c.args.proposal.now
    (items_of c.in_ok-items.items.destination c.in_ok-items.items.requests.items) c.in_ok-footprint.footprint (Some c.in-Some.transaction)
    few c.in_ok-items.ensures.items leased (sym c.conflict.ensures.first ∙ c.in-Some.is)

pub returns-in_err-costs : goal.returns-in_err-costs
returns-in_err-costs g c =
    let few : length c.args.proposal.now.requests ≤ 64 = c.requires.few in
    let leased : c.in_ok-footprint.footprint ≡ footprint_of (items_of c.in_ok-items.items.destination c.in_ok-items.items.requests.items) =
    rw (c.as_ref.ensures.value, c.deref.ensures.value) at c.in_ok-footprint.ensures in
    let list = items_of c.in_ok-items.items.destination c.in_ok-items.items.requests.items in
    let tested = past_tests c.args.protected.now (g.S.Filestore.state c.args.store.now).filestore c.args.leases.now (spare c.args.quota.now) c.args.proposal.now
    (items_of c.in_ok-items.items.destination c.in_ok-items.items.requests.items) c.in_ok-footprint.footprint None few c.in_ok-items.ensures.items leased
    (sym c.conflict.ensures.first ∙ c.in_default.is) in
    let p = err_from_is_err_and c.from_residual-in_err-costs.result c.from_residual-in_err-costs.ensures.1 in
    let same : judged_apart c.args.protected.now (g.S.Filestore.state c.args.store.now).filestore c.spare-spare.result
    (replicate c.proposal.inside.bound 0) list None
    ≡ judged_apart c.args.protected.now (g.S.Filestore.state c.args.store.now).filestore (spare c.args.quota.now)
    (replicate c.args.proposal.now.bound 0) list None =
    λ i. judged_apart c.args.protected.now (g.S.Filestore.state c.args.store.now).filestore (c.spare-spare.ensures.spare i)
    (replicate (c.proposal.view_is i).bound 0) list None in
    rw (p.1, p.2) (subst (λ (v : Verdict). RefusesSo c.in_err-costs.field-0.0 v) (same ∙ sym tested) c.in_err-costs.ensures)

pub returns : goal.returns
returns g c =
    let few : length c.args.proposal.now.requests ≤ 64 = c.requires.few in
    let leased : c.in_ok-footprint.footprint ≡ footprint_of (items_of c.in_ok-items.items.destination c.in_ok-items.items.requests.items) =
    rw (c.as_ref.ensures.value, c.deref.ensures.value) at c.in_ok-footprint.ensures in
    let list = items_of c.in_ok-items.items.destination c.in_ok-items.items.requests.items in
    let tested = past_tests c.args.protected.now (g.S.Filestore.state c.args.store.now).filestore c.args.leases.now (spare c.args.quota.now) c.args.proposal.now
    (items_of c.in_ok-items.items.destination c.in_ok-items.items.requests.items) c.in_ok-footprint.footprint None few c.in_ok-items.ensures.items leased
    (sym c.conflict.ensures.first ∙ c.in_default.is) in
    let same : judged_apart c.args.protected.now (g.S.Filestore.state c.args.store.now).filestore c.spare-spare.result
    (replicate c.proposal.inside.bound 0) list None
    ≡ judged_apart c.args.protected.now (g.S.Filestore.state c.args.store.now).filestore (spare c.args.quota.now)
    (replicate c.args.proposal.now.bound 0) list None =
    λ i. judged_apart c.args.protected.now (g.S.Filestore.state c.args.store.now).filestore (c.spare-spare.ensures.spare i)
    (replicate (c.proposal.view_is i).bound 0) list None in
    (tested ∙ sym same ∙ c.in_ok-costs.ensures, leased)
