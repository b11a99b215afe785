use Rattle.cfdp_commands.specs.Plain.{plain_state}
use Rattle.cfdp_commands.proofs.Statuses.{performed_on_speaks}
use Rattle.cfdp_commands.proofs.requests.Requests.answer.Goals as goal

pub write_answer-requires-clause-action : goal.write_answer-requires-clause-action
write_answer-requires-clause-action g c =
    performed_on_speaks (plain_state (g.S.Filestore.state c.args.self.now.store) c.args.self.now.stopped)
    (plain_state (g.S.Filestore.state c.perform.new.self.store) c.perform.new.self.stopped)
    c.args.request
    c.in_ok-status.status
    c.in_ok-status.ensures
