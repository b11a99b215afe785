use Rattle.std.proofs.Common.{rules, ◌≡◌, false}
use Rattle.cfdp_receiver.specs.State.{at_of}
use Rattle.cfdp_receiver.specs.Due.{is_receiving_at}
use Rattle.cfdp_receiver.proofs.SameSessionPut.{not_roused}
use Rattle.cfdp_receiver.proofs.state_machine.StateMachine.rouse.Goals as goal

pub returns-else-is_receiving : goal.returns-else-is_receiving
returns-else-is_receiving c session here =
    let quiet : is_receiving_at (at_of c.args.self.now.state.world session) ≡ false = search rules in
    not_roused c.args.self.now c.args.index session c.sound.ensures.distinct here quiet
