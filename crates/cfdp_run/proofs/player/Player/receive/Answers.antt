use Rattle.cfdp_receiver.specs.Heard.{heard}
use Rattle.cfdp_run.proofs.Follows.{heard_writes}
use Rattle.cfdp_run.proofs.player.Player.receive.Goals as goal

pub returns-in-Ok-clause-text : goal.returns-in-Ok-clause-text
returns-in-Ok-clause-text c =
    let ok = c.in-Ok.ensures.ok in
    heard_writes c.follow.result c.args.self.now.receiver.state c.args.now ok.0 (heard c.args.now c.args.octets.now) c.receive.new.self c.in-Ok.answer
    c.follow.new.self.receiver.state c.args.text.now.items c.follow.new.text.items ok.1 ok.2 c.follow.ensures
