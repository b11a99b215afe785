use Rattle.std.proofs.Common.{◌≡◌, ◌∙◌, replicate, map, Ok, Err}
use Rattle.std.proofs.lemmas.Result.{err_from_is_err_and}
use Rattle.cfdp_actions.specs.Actions.{Perform}
use Rattle.cfdp_leases.specs.Items.{items_of}
use Rattle.cfdp_states.specs.Views.{IsViewOf}
use Rattle.cfdp_verifier.proofs.Judged.{AtRequests, installed_at, runs_at, refused_at, file_at, no_file_at, all_done, one_failed}
use Rattle.cfdp_verifier.proofs.judging.run_open.Goals as goal
use Rattle.cfdp_verifier.proofs.judging.run_open.Goals.{in-Some+in_ok-install+else-not-branch, in_default}

pub returns-then-not-branch : goal.returns-then-not-branch
returns-then-not-branch g c =
    refused_at c.args.protected.now (g.S.Filestore.state c.args.store.now).filestore c.args.bound c.args.items.now.destination c.args.items.now.requests.items
    c.args.footprint.now (IsViewOf c.in_ok-view.view)
    c.in_ok-view.ensures.stated (IsViewOf c.install.new.self) c.in-Some.path c.in_ok-install.field-0
    (installed_at c.args.protected.now c.in_ok-view.view c.install.new.self c.in-Some.path c.args.bound c.in_ok-install.field-0 c.in_ok-view.ensures.prefixes
    c.in_ok-install.ensures.stated) c.in-Some.is c.requires.footprint c.if-not-branch.true

pub returns-in_err-run_requests : goal.returns-in_err-run_requests
returns-in_err-run_requests g c =
    let same : c.match-items.view.prefixes ≡ c.args.protected.now = elim c.match-items.branch [
      | in-Some+in_ok-install+else-not-branch w ↦ rw w.view-is (w.in_ok-install.ensures.prefixes ∙ c.in_ok-view.ensures.prefixes)
      | in_default w ↦ rw w.view-is c.in_ok-view.ensures.prefixes
    ] in
    let at : AtRequests c.args.protected.now (g.S.Filestore.state c.args.store.now).filestore (replicate c.args.bound 0)
    (items_of c.args.items.now.destination c.args.items.now.requests.items) c.args.items.now.requests.items (IsViewOf c.match-items.view) =
    elim c.match-items.branch [
      | in-Some+in_ok-install+else-not-branch w ↦ rw w.view-is (file_at c.args.protected.now
          (g.S.Filestore.state c.args.store.now).filestore c.args.bound c.args.items.now.destination c.args.items.now.requests.items c.args.footprint.now
          (IsViewOf c.in_ok-view.view)
          c.in_ok-view.ensures.stated (IsViewOf w.install.new.self) w.in-Some.path w.in_ok-install.field-0
          (installed_at c.args.protected.now c.in_ok-view.view w.install.new.self w.in-Some.path c.args.bound w.in_ok-install.field-0
          c.in_ok-view.ensures.prefixes w.in_ok-install.ensures.stated) w.in-Some.is c.requires.footprint w.if-not-branch.false)
      | in_default w ↦ rw w.view-is (no_file_at c.args.protected.now (g.S.Filestore.state c.args.store.now).filestore c.args.bound c.args.items.now.destination
          c.args.items.now.requests.items c.args.footprint.now (IsViewOf c.in_ok-view.view)
          c.in_ok-view.ensures.stated w.in_default.is c.requires.footprint c.requires.bound)
    ] in
    let p = err_from_is_err_and c.from_residual-in_err-run_requests.result c.from_residual-in_err-run_requests.ensures.1 in
    let fault = c.in_err-run_requests.field-0.0 in
    rw (p.1, p.2) (one_failed c.args.protected.now (g.S.Filestore.state c.args.store.now).filestore (replicate c.args.bound 0)
    (items_of c.args.items.now.destination c.args.items.now.requests.items) c.args.items.now.requests.items
    (IsViewOf c.match-items.view) c.run_requests.new.view at (Unit {0}) fault
    (runs_at {X = Unit {0}} (IsViewOf c.match-items.view) c.args.protected.now c.match-items.view c.run_requests.new.view
    (map Perform c.args.items.now.requests.items) (Err fault) same
    (rw c.deref.ensures.value at c.in_err-run_requests.ensures)))

pub returns : goal.returns
returns g c =
    let same : c.match-items.view.prefixes ≡ c.args.protected.now = elim c.match-items.branch [
      | in-Some+in_ok-install+else-not-branch w ↦ rw w.view-is (w.in_ok-install.ensures.prefixes ∙ c.in_ok-view.ensures.prefixes)
      | in_default w ↦ rw w.view-is c.in_ok-view.ensures.prefixes
    ] in
    let at : AtRequests c.args.protected.now (g.S.Filestore.state c.args.store.now).filestore (replicate c.args.bound 0)
    (items_of c.args.items.now.destination c.args.items.now.requests.items) c.args.items.now.requests.items (IsViewOf c.match-items.view) =
    elim c.match-items.branch [
      | in-Some+in_ok-install+else-not-branch w ↦ rw w.view-is (file_at c.args.protected.now
          (g.S.Filestore.state c.args.store.now).filestore c.args.bound c.args.items.now.destination c.args.items.now.requests.items c.args.footprint.now
          (IsViewOf c.in_ok-view.view)
          c.in_ok-view.ensures.stated (IsViewOf w.install.new.self) w.in-Some.path w.in_ok-install.field-0
          (installed_at c.args.protected.now c.in_ok-view.view w.install.new.self w.in-Some.path c.args.bound w.in_ok-install.field-0
          c.in_ok-view.ensures.prefixes w.in_ok-install.ensures.stated) w.in-Some.is c.requires.footprint w.if-not-branch.false)
      | in_default w ↦ rw w.view-is (no_file_at c.args.protected.now (g.S.Filestore.state c.args.store.now).filestore c.args.bound c.args.items.now.destination
          c.args.items.now.requests.items c.args.footprint.now (IsViewOf c.in_ok-view.view)
          c.in_ok-view.ensures.stated w.in_default.is c.requires.footprint c.requires.bound)
    ] in
    all_done c.args.protected.now (g.S.Filestore.state c.args.store.now).filestore (replicate c.args.bound 0)
    (items_of c.args.items.now.destination c.args.items.now.requests.items) c.args.items.now.requests.items
    (IsViewOf c.match-items.view) c.run_requests.new.view at c.in_ok-run_requests.field-0
    (runs_at {X = Unit {0}} (IsViewOf c.match-items.view) c.args.protected.now c.match-items.view c.run_requests.new.view
    (map Perform c.args.items.now.requests.items) (Ok c.in_ok-run_requests.field-0) same
    (rw c.deref.ensures.value at c.in_ok-run_requests.ensures))
