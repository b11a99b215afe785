use Rattle.std.proofs.Common.{◌∙◌, refl}
use Rattle.std.specs.Prelude.{⊤, Ok}
use Rattle.cfdp_transactions.specs.CoreFields.{outcome_in}
use Rattle.cfdp_entity.proofs.Sending.{none_changes, none_there, sent_len, returned_fits, writable_then}
use Rattle.cfdp_entity.proofs.entity.Entity.take_finished.Goals as goal

pub take_finished-requires : goal.take_finished-requires
take_finished-requires c =
    let W = c.self.inside.core.world in
    record { writable = returned_fits {E = ⊤} W c.args.id (Ok (outcome_in W c.args.id)) c.self.inside.writable refl }

pub invariant_of-self-inside : goal.invariant_of-self-inside
invariant_of-self-inside c = (
  writable_then c.self.inside.core.world c.take_finished.new.self.world c.args.id c.take_finished.result c.self.inside.writable
      c.take_finished.ensures.world c.take_finished.ensures.unchanged,
  (c.take_finished.ensures.steady ∙ c.self.inside.thrifty, tt),
)

pub returns-clause-none : goal.returns-clause-none
returns-clause-none c =
    rw (← c.self.view_is) (none_there c.self.inside.core.world c.take_finished.new.self.world c.args.id c.take_finished.result c.take_finished.ensures.returned)

pub returns-clause-kept : goal.returns-clause-kept
returns-clause-kept c =
    rw (← c.self.view_is) (none_changes c.self.inside.core.world c.take_finished.new.self.world c.args.id c.take_finished.result
    c.take_finished.ensures.returned c.take_finished.ensures.world)

pub returns-clause-most : goal.returns-clause-most
returns-clause-most c = rw (← c.self.view_is) (sent_len c.self.inside.core.world c.args.id c.self.inside.writable)
