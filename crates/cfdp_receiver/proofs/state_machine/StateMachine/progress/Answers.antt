use Rattle.std.proofs.Common.{rules, ◌≡◌, ℕ, ◌<◌, ◌^◌, sym, subst, refl}
use Rattle.cfdp_pdus.specs.Bits.{fss}
use Rattle.cfdp_transactions.specs.World.{entry_of}
use Rattle.cfdp_receiver.specs.Turning.{progress_at}
use Rattle.cfdp_receiver.proofs.OffsetsFit.{progress_fits}
use Rattle.cfdp_receiver.proofs.state_machine.StateMachine.progress.Goals as goal

pub returns-clause-sized : goal.returns-clause-sized
returns-clause-sized c taking large =
    let W = c.args.self.now.state.world in
    let value : c.unwrap_or.result ≡ progress_at (entry_of W c.args.id) = search rules in
    subst (λ (n : ℕ). n < 256 ^ fss large) (sym value)
    (progress_fits W c.args.id (entry_of W c.args.id) c.sound.ensures.sound c.sound.ensures.few refl taking large)
