use Rattle.std.proofs.Common.{◌∙◌}
use Rattle.cfdp_transactions.specs.declared.event.Event.TheVariants.{Data}
use Rattle.cfdp_transactions.proofs.Promises.Fitting.{writable_after}
use Rattle.cfdp_entity.proofs.entity.Entity.file_data.Goals as goal

pub invariant_of-self-inside : goal.invariant_of-self-inside
invariant_of-self-inside c = (
  writable_after c.self.inside.core.world (Data c.args.header.now c.args.piece.now) c.file_data.result c.file_data.new.self.world
      c.self.inside.writable c.requires c.file_data.ensures.follows,
  (c.file_data.ensures.steady ∙ c.self.inside.thrifty, tt),
)
