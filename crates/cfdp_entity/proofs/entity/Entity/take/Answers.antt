use Rattle.cfdp_entity.proofs.Sending.{some_fits, sent_len}
use Rattle.cfdp_entity.proofs.entity.Entity.take.Goals as goal

pub octets-requires : goal.octets-requires
octets-requires c =
    some_fits c.self.inside.core.world c.args.id c.in-Some.outcome c.self.inside.writable (rw c.in-Some.is at c.in_ok-outcome.ensures.outcome)

pub returns-in_err-outcome-clause-most : goal.returns-in_err-outcome-clause-most
returns-in_err-outcome-clause-most c = rw (← c.self.view_is) (sent_len c.self.inside.core.world c.args.id c.self.inside.writable)

pub returns-in_err-octets-clause-most : goal.returns-in_err-octets-clause-most
returns-in_err-octets-clause-most c = rw (← c.self.view_is) (sent_len c.self.inside.core.world c.args.id c.self.inside.writable)

pub returns-then-out-len-clause-most : goal.returns-then-out-len-clause-most
returns-then-out-len-clause-most c = rw (← c.self.view_is) (sent_len c.self.inside.core.world c.args.id c.self.inside.writable)

pub returns-in-Memory-clause-most : goal.returns-in-Memory-clause-most
returns-in-Memory-clause-most c = rw (← c.self.view_is) (sent_len c.self.inside.core.world c.args.id c.self.inside.writable)

pub returns-clause-most : goal.returns-clause-most
returns-clause-most c = rw (← c.self.view_is) (sent_len c.self.inside.core.world c.args.id c.self.inside.writable)
