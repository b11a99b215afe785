use Rattle.std.proofs.Common.{rules, ap}
use Rattle.cfdp_entity.specs.Hearing.{heard_event_in}
use Rattle.cfdp_entity.proofs.entity.Entity.hear.Goals as goal

pub returns-in_default : goal.returns-in_default
returns-in_default c =
    let read = rw c.in-Ok-Some.field-0-is at c.in-Ok-Some.ensures.exact in
    record { ok = (c.in-Ok-Some.event, ap heard_event_in read, c.transaction-id.ensures, search rules); err = tt; unchanged = tt }
