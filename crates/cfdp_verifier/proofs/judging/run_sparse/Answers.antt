use Rattle.std.proofs.Common.{◌≡◌, ◌∙◌, sym, subst, true, replicate, map, Bool, List, [], Ok, Err}
use Rattle.std.proofs.lemmas.Result.{err_from_is_err_and}
use Rattle.std.specs.Option.{option_copied}
use Rattle.cfdp_actions.specs.Filestore.{blocks}
use Rattle.cfdp_actions.specs.Actions.{Item, Perform}
use Rattle.cfdp_leases.specs.Items.{items_of}
use Rattle.cfdp_states.specs.Alone.{alone}
use Rattle.cfdp_states.specs.Views.{Sketch, only}
use Rattle.cfdp_states.specs.Sparse.{IsSparseViewOf}
use Rattle.cfdp_verifier.specs.code.Judging.{JudgesAlone}
use Rattle.cfdp_verifier.specs.code.SparseJudging.{TellsSparseRun}
use Rattle.cfdp_verifier.proofs.Running.{some_of}
use Rattle.cfdp_verifier.proofs.Judged.{AtRequests, runs_at, refused_at_sparse, file_at_sparse, no_file_at_sparse, all_done, one_failed}
use Rattle.cfdp_verifier.proofs.judging.run_sparse.Goals as goal
use Rattle.cfdp_verifier.proofs.judging.run_sparse.Goals.{in-Some-destination+in_ok-install+else-not-branch, in_default-destination}

pub returns-then-not-branch : goal.returns-then-not-branch
returns-then-not-branch g c =
    let F = (g.S.Filestore.state c.args.store.now).filestore in
    let prefixes = c.args.protected.now in
    let bound = c.args.bound in
    let d = c.args.items.now.destination in
    let requests = c.args.items.now.requests.items in
    let fp = c.args.footprint.now in
    let v = c.in-Some.view in
    let same : v.view.prefixes ≡ prefixes = some_of (λ it. it.view.prefixes ≡ prefixes) c.in_ok-made.made v c.in-Some.is c.in_ok-made.ensures.prefixes in
    let G = alone (only fp F) [] in
    let lent = items_of (option_copied c.as_ref-destination.result) c.deref.result.now in
    let listed : lent ≡ items_of d requests = λ i. items_of (c.as_ref-destination.ensures.value i) (c.deref.ensures.value i) in
    let seen : IsSparseViewOf v.view (items_of d requests) G (blocks G) (blocks G) 0 =
    subst (λ (items : List Item). IsSparseViewOf v.view items G (blocks G) (blocks G) 0) listed
    (some_of (λ it. IsSparseViewOf it.view lent G (blocks G) (blocks G) 0) c.in_ok-made.made v c.in-Some.is c.in_ok-made.ensures.stated) in
    refused_at_sparse prefixes F bound d requests fp v.view same seen c.install.new.self.view c.in-Some-destination.path c.in_ok-install.field-0
    c.in_ok-install.ensures.stated c.in-Some-destination.is c.requires.footprint c.if-not-branch.true

pub returns-in_err-run_requests_sparse : goal.returns-in_err-run_requests_sparse
returns-in_err-run_requests_sparse g c =
    let F = (g.S.Filestore.state c.args.store.now).filestore in
    let prefixes = c.args.protected.now in
    let bound = c.args.bound in
    let d = c.args.items.now.destination in
    let requests = c.args.items.now.requests.items in
    let fp = c.args.footprint.now in
    let v = c.in-Some.view in
    let same : v.view.prefixes ≡ prefixes = some_of (λ it. it.view.prefixes ≡ prefixes) c.in_ok-made.made v c.in-Some.is c.in_ok-made.ensures.prefixes in
    let G = alone (only fp F) [] in
    let lent = items_of (option_copied c.as_ref-destination.result) c.deref.result.now in
    let listed : lent ≡ items_of d requests = λ i. items_of (c.as_ref-destination.ensures.value i) (c.deref.ensures.value i) in
    let seen : IsSparseViewOf v.view (items_of d requests) G (blocks G) (blocks G) 0 =
    subst (λ (items : List Item). IsSparseViewOf v.view items G (blocks G) (blocks G) 0) listed
    (some_of (λ it. IsSparseViewOf it.view lent G (blocks G) (blocks G) 0) c.in_ok-made.made v c.in-Some.is c.in_ok-made.ensures.stated) in
    let u = c.match-items.view in
    let still : u.view.prefixes ≡ prefixes = elim c.match-items.branch [
      | in-Some-destination+in_ok-install+else-not-branch w ↦ rw w.view-is (w.in_ok-install.ensures.prefixes ∙ same)
      | in_default-destination w ↦ rw w.view-is same
    ] in
    let at : AtRequests prefixes F (replicate bound 0) (items_of d requests) requests (IsSparseViewOf u.view (map Perform requests)) =
    elim c.match-items.branch [
      | in-Some-destination+in_ok-install+else-not-branch w ↦ rw w.view-is
          (file_at_sparse prefixes F bound d requests fp v.view same seen w.install.new.self.view w.in-Some-destination.path w.in_ok-install.field-0
          w.in_ok-install.ensures.stated w.in-Some-destination.is c.requires.footprint w.if-not-branch.false)
      | in_default-destination w ↦ rw w.view-is
          (no_file_at_sparse prefixes F bound d requests fp v.view same seen w.in_default-destination.is c.requires.footprint c.requires.bound)
    ] in
    let n = c.run_requests_sparse.new.view in
    let p = err_from_is_err_and c.from_residual-in_err-run_requests_sparse.result c.from_residual-in_err-run_requests_sparse.ensures.1 in
    let fault = c.in_err-run_requests_sparse.field-0.0 in
    rw (p.1, p.2) (one_failed prefixes F (replicate bound 0) (items_of d requests) requests
    (IsSparseViewOf u.view (map Perform requests)) n.view at Bool fault
    (runs_at {X = Bool} (IsSparseViewOf u.view (map Perform requests)) prefixes u.view n.view (map Perform requests) (Err fault) still
    (rw c.deref-2.ensures.value at c.in_err-run_requests_sparse.ensures)))

pub returns : goal.returns
returns g c =
    let F = (g.S.Filestore.state c.args.store.now).filestore in
    let prefixes = c.args.protected.now in
    let bound = c.args.bound in
    let d = c.args.items.now.destination in
    let requests = c.args.items.now.requests.items in
    let fp = c.args.footprint.now in
    let v = c.in-Some.view in
    let same : v.view.prefixes ≡ prefixes = some_of (λ it. it.view.prefixes ≡ prefixes) c.in_ok-made.made v c.in-Some.is c.in_ok-made.ensures.prefixes in
    let G = alone (only fp F) [] in
    let lent = items_of (option_copied c.as_ref-destination.result) c.deref.result.now in
    let listed : lent ≡ items_of d requests = λ i. items_of (c.as_ref-destination.ensures.value i) (c.deref.ensures.value i) in
    let seen : IsSparseViewOf v.view (items_of d requests) G (blocks G) (blocks G) 0 =
    subst (λ (items : List Item). IsSparseViewOf v.view items G (blocks G) (blocks G) 0) listed
    (some_of (λ it. IsSparseViewOf it.view lent G (blocks G) (blocks G) 0) c.in_ok-made.made v c.in-Some.is c.in_ok-made.ensures.stated) in
    let u = c.match-items.view in
    let still : u.view.prefixes ≡ prefixes = elim c.match-items.branch [
      | in-Some-destination+in_ok-install+else-not-branch w ↦ rw w.view-is (w.in_ok-install.ensures.prefixes ∙ same)
      | in_default-destination w ↦ rw w.view-is same
    ] in
    let at : AtRequests prefixes F (replicate bound 0) (items_of d requests) requests (IsSparseViewOf u.view (map Perform requests)) =
    elim c.match-items.branch [
      | in-Some-destination+in_ok-install+else-not-branch w ↦ rw w.view-is
          (file_at_sparse prefixes F bound d requests fp v.view same seen w.install.new.self.view w.in-Some-destination.path w.in_ok-install.field-0
          w.in_ok-install.ensures.stated w.in-Some-destination.is c.requires.footprint w.if-not-branch.false)
      | in_default-destination w ↦ rw w.view-is
          (no_file_at_sparse prefixes F bound d requests fp v.view same seen w.in_default-destination.is c.requires.footprint c.requires.bound)
    ] in
    let n = c.run_requests_sparse.new.view in
    let done = subst (λ b. TellsSparseRun u.view n.view (map Perform c.deref-2.result.now) (Ok b)) c.if-not-branch-2.false
    c.in_ok-run_requests_sparse.ensures in
    subst (λ (w : Sketch). JudgesAlone prefixes F (replicate bound 0) (items_of d requests) (Ok w)) (sym c.into_view.ensures)
    (all_done prefixes F (replicate bound 0) (items_of d requests) requests (IsSparseViewOf u.view (map Perform requests)) n.view at true
    (runs_at {X = Bool} (IsSparseViewOf u.view (map Perform requests)) prefixes u.view n.view (map Perform requests) (Ok true) still
    (rw c.deref-2.ensures.value at done)))
