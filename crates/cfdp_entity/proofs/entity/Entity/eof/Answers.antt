use Rattle.cfdp_entity.proofs.entity.Entity.eof.Goals as goal

pub returns : goal.returns
returns c = c.tell.ensures
