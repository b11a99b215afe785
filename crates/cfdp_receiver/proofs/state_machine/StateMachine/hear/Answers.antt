use Rattle.std.proofs.Common.{◌≡◌, false, sym, ap, ◌∙◌}
use Rattle.std.proofs.lemmas.Option.{same_Some}
use Rattle.cfdp_receiver.specs.code.StateMachine.{awaited_of}
use Rattle.cfdp_receiver.specs.Turning.{is_news}
use Rattle.cfdp_receiver.proofs.SameSessionPut.{no_news}
use Rattle.cfdp_receiver.proofs.state_machine.StateMachine.hear.Goals as goal

pub returns-else-is_news : goal.returns-else-is_news
returns-else-is_news c U session here before =
    let M = c.args.self.now in
    let seen = c.session.result.now in
    let same : seen ≡ session = same_Some seen session (sym c.session.ensures ∙ here) in
    let quiet : is_news U M.state.world session ≡ false =
    ap (is_news U M.state.world) (sym same) ∙ sym (c.is_news.ensures U (before ∙ ap (awaited_of U) (sym same))) ∙ c.if-is_news.false in
    no_news U M c.args.index session c.sound.ensures.distinct here quiet
