use Rattle.std.proofs.Common.{rules, ◌≡◌, refl}
use Rattle.std.specs.Prelude.{Some}
use Rattle.std.specs.Option.{option_map}
use Rattle.cfdp_transactions.specs.Entry.{reach}
use Rattle.cfdp_transactions.specs.World.{entry_of}
use Rattle.cfdp_receiver.specs.Turning.{gaps_after}
use Rattle.cfdp_receiver.proofs.OffsetsFit.{missing_fit, reach_fits}
use Rattle.cfdp_receiver.proofs.state_machine.StateMachine.asks_for_gaps.Goals as goal

pub sequence-requires-clause-high : goal.sequence-requires-clause-high
sequence-requires-clause-high c =
    let W = c.args.self.now.state.world in
    let id = c.name-id.result in
    let made : Some c.in_ok-high.high ≡ option_map reach (entry_of W id) = search rules in
    reach_fits W id (entry_of W id) c.in_ok-high.high c.sound.ensures.sound c.sound.ensures.few refl made c.args.session.now.header.large

pub sequence-requires-clause-sized : goal.sequence-requires-clause-sized
sequence-requires-clause-sized c =
    let W = c.args.self.now.state.world in
    let id = c.name-id.result in
    let made : Some c.in_ok-requests.requests.items ≡ option_map (gaps_after 0) (entry_of W id) = search rules in
    missing_fit W id 0 (entry_of W id) c.in_ok-requests.requests.items c.sound.ensures.sound c.sound.ensures.few refl made c.args.session.now.header.large
