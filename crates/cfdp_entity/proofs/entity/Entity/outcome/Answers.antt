use Rattle.cfdp_entity.proofs.Sending.{returned_fits}
use Rattle.cfdp_entity.proofs.entity.Entity.outcome.Goals as goal

pub returns-clause-writable : goal.returns-clause-writable
returns-clause-writable c = returned_fits c.self.inside.core.world c.args.id c.outcome.result c.self.inside.writable c.outcome.ensures.outcome
