use Rattle.std.proofs.Common.{rules, ◌≡◌}
use Rattle.std.specs.Prelude.{slice_get, IfSome}
use Rattle.cfdp_sessions.specs.Sessions.{found}
use Rattle.cfdp_receiver.proofs.SameSessionPut.{named}
use Rattle.cfdp_receiver.proofs.state_machine.StateMachine.find.Goals as goal

pub returns-clause-named : goal.returns-clause-named
returns-clause-named c =
    let ss = c.args.self.now.state.sessions in
    let same : IfSome c.find.result (λ k. found ss c.args.id ≡ slice_get ss k) = search rules in
    named ss c.args.id c.find.result same
