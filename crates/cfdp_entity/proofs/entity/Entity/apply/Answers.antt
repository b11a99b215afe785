use Rattle.std.proofs.Common.{◌∙◌}
use Rattle.cfdp_transactions.proofs.Promises.Fitting.{writable_after, fits_reply}
use Rattle.cfdp_entity.proofs.entity.Entity.apply.Goals as goal

pub invariant_of-self-inside : goal.invariant_of-self-inside
invariant_of-self-inside c = (
  writable_after c.self.inside.core.world c.args.event.now c.apply.result c.apply.new.self.world c.self.inside.writable c.requires c.apply.ensures.follows,
  (c.apply.ensures.steady ∙ c.self.inside.thrifty, tt),
)

pub returns-clause-fits : goal.returns-clause-fits
returns-clause-fits c =
    fits_reply c.self.inside.core.world c.args.event.now c.apply.result c.apply.new.self.world c.self.inside.writable c.requires c.apply.ensures.follows
