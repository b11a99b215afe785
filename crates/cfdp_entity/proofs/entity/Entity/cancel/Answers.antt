use Rattle.cfdp_entity.proofs.entity.Entity.cancel.Goals as goal

pub returns : goal.returns
returns c = c.tell.ensures
