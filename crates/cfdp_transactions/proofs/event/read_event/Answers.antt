use Rattle.cfdp_transactions.proofs.Promises.Readable.{made_readable}
use Rattle.cfdp_transactions.proofs.event.read_event.Goals as goal

pub returns-clause-readable : goal.returns-clause-readable
returns-clause-readable c =
    let sound = rw c.in-Some.is at c.in_ok-pdu.ensures.sound in
    rw c.ok.ensures.value (made_readable c.in-Some.pdu c.event_of.result sound c.event_of.ensures.ok)
