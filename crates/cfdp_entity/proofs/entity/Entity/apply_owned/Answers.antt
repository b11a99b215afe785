use Rattle.std.proofs.Common.{◌∙◌}
use Rattle.cfdp_transactions.proofs.Promises.Fitting.{writable_after}
use Rattle.cfdp_entity.proofs.entity.Entity.apply_owned.Goals as goal

pub invariant_of-self-inside : goal.invariant_of-self-inside
invariant_of-self-inside c = (
  writable_after c.self.inside.core.world c.args.event c.apply_owned.result c.apply_owned.new.self.world c.self.inside.writable c.requires
      c.apply_owned.ensures.follows,
  (c.apply_owned.ensures.steady ∙ c.self.inside.thrifty, tt),
)
