use Rattle.std.proofs.Common.{◌∙◌}
use Rattle.cfdp_transactions.specs.declared.event.Event.TheVariants.{Take}
use Rattle.cfdp_transactions.proofs.Promises.Fitting.{writable_after}
use Rattle.cfdp_entity.proofs.entity.Entity.hand_out.Goals as goal

pub invariant_of-self-inside : goal.invariant_of-self-inside
invariant_of-self-inside c = (
  writable_after c.self.inside.core.world (Take c.args.id) c.hand_out.result c.hand_out.new.self.world c.self.inside.writable tt c.hand_out.ensures.follows,
  (c.hand_out.ensures.steady ∙ c.self.inside.thrifty, tt),
)
