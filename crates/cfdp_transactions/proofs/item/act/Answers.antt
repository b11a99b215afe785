use Rattle.std.proofs.Common.{refl}
use Rattle.std.proofs.lemmas.Bool.{leb-true}
use Rattle.cfdp_actions.specs.Store.{free_blocks}
use Rattle.cfdp_transactions.proofs.KeptTable.Acting.{is_allowed, is_installed}
use Rattle.cfdp_transactions.proofs.item.act.Goals as goal

pub install-requires-clause-parent : goal.install-requires-clause-parent
install-requires-clause-parent g c =
    let s = g.S.Filestore.state c.args.store.now in
    let i = is_installed c.args._protected.now s.filestore (free_blocks s) c.args.slot c.in-Install.path.now (rw c.in-Install.is at c.requires.succeeds) in
    i.parent

pub install-requires-clause-kind : goal.install-requires-clause-kind
install-requires-clause-kind g c =
    let s = g.S.Filestore.state c.args.store.now in
    let i = is_installed c.args._protected.now s.filestore (free_blocks s) c.args.slot c.in-Install.path.now (rw c.in-Install.is at c.requires.succeeds) in
    i.kind

pub install-requires-clause-room : goal.install-requires-clause-room
install-requires-clause-room g c =
    let s = g.S.Filestore.state c.args.store.now in
    let i = is_installed c.args._protected.now s.filestore (free_blocks s) c.args.slot c.in-Install.path.now (rw c.in-Install.is at c.requires.succeeds) in
    i.room

pub returns-in_ok-ticks-in-Install-clause-reply : goal.returns-in_ok-ticks-in-Install-clause-reply
returns-in_ok-ticks-in-Install-clause-reply g c =
    let s = g.S.Filestore.state c.args.store.now in
    let i = is_installed c.args._protected.now s.filestore (free_blocks s) c.args.slot c.in-Install.path.now (rw c.in-Install.is at c.requires.succeeds) in
    rw (c.in-Install.is, i.answer) refl

pub returns-in_ok-ticks-in-Install-clause-ticks : goal.returns-in_ok-ticks-in-Install-clause-ticks
returns-in_ok-ticks-in-Install-clause-ticks g c =
    let s = g.S.Filestore.state c.args.store.now in
    let i = is_installed c.args._protected.now s.filestore (free_blocks s) c.args.slot c.in-Install.path.now (rw c.in-Install.is at c.requires.succeeds) in
    rw (c.in-Install.is, i.ticks_are) c.in_ok-ticks-in-Install.ensures.ticks

pub returns-in_ok-ticks-in-Install-clause-state : goal.returns-in_ok-ticks-in-Install-clause-state
returns-in_ok-ticks-in-Install-clause-state g c =
    let s = g.S.Filestore.state c.args.store.now in
    let i = is_installed c.args._protected.now s.filestore (free_blocks s) c.args.slot c.in-Install.path.now (rw c.in-Install.is at c.requires.succeeds) in
    rw (c.in-Install.is, i.changes) c.in_ok-ticks-in-Install.ensures.installed

pub perform_allowed-requires-clause-allowed : goal.perform_allowed-requires-clause-allowed
perform_allowed-requires-clause-allowed g c =
    let s = g.S.Filestore.state c.args.store.now in
    let d = is_allowed c.args._protected.now s.filestore (free_blocks s) c.args.slot c.in-Perform.request.now (rw c.in-Perform.is at c.requires.succeeds) in
    d.succeeds

pub perform_allowed-requires-clause-room : goal.perform_allowed-requires-clause-room
perform_allowed-requires-clause-room g c =
    let s = g.S.Filestore.state c.args.store.now in
    let d = is_allowed c.args._protected.now s.filestore (free_blocks s) c.args.slot c.in-Perform.request.now (rw c.in-Perform.is at c.requires.succeeds) in
    leb-true _ _ d.fits

pub returns-in_ok-done-in-Perform-clause-reply : goal.returns-in_ok-done-in-Perform-clause-reply
returns-in_ok-done-in-Perform-clause-reply g c =
    let s = g.S.Filestore.state c.args.store.now in
    let d = is_allowed c.args._protected.now s.filestore (free_blocks s) c.args.slot c.in-Perform.request.now (rw c.in-Perform.is at c.requires.succeeds) in
    rw (c.in-Perform.is, d.same, ← c.in_ok-done-in-Perform.ensures.status) refl

pub returns-in_ok-done-in-Perform-clause-ticks : goal.returns-in_ok-done-in-Perform-clause-ticks
returns-in_ok-done-in-Perform-clause-ticks g c =
    let s = g.S.Filestore.state c.args.store.now in
    let d = is_allowed c.args._protected.now s.filestore (free_blocks s) c.args.slot c.in-Perform.request.now (rw c.in-Perform.is at c.requires.succeeds) in
    rw (c.in-Perform.is, d.same) c.in_ok-done-in-Perform.ensures.ticks

pub returns-in_ok-done-in-Perform-clause-state : goal.returns-in_ok-done-in-Perform-clause-state
returns-in_ok-done-in-Perform-clause-state g c =
    let s = g.S.Filestore.state c.args.store.now in
    let d = is_allowed c.args._protected.now s.filestore (free_blocks s) c.args.slot c.in-Perform.request.now (rw c.in-Perform.is at c.requires.succeeds) in
    rw (c.in-Perform.is, d.same) c.in_ok-done-in-Perform.ensures.state
