use Rattle.std.proofs.Common.{arith}
use Rattle.cfdp_pdus.specs.declared.pdu.Pdu.TheVariants as pdus
use Rattle.cfdp_pdus.proofs.PduSteps.{pdu_takes}
use Rattle.cfdp_pdus.proofs.SoundSteps.{octets_from, pdu_sound}
use Rattle.cfdp_transactions.specs.declared.event.Event.TheVariants.{Data}
use Rattle.cfdp_entity.proofs.Hearing.{data_heard}
use Rattle.cfdp_entity.proofs.entity.Entity.receive.Goals as goal

pub file_data-requires : goal.file_data-requires
file_data-requires c =
    let octets = c.args.octets.now in
    let pdu = pdus.FileData c.in-Some.header c.in-Some.piece in
    (pdu_sound octets pdu (octets_from octets (λ i. omega (arith, c.type_inv.octets i))) (pdu_takes octets pdu c.in-Some.ensures.found)).0

pub returns-clause-ok : goal.returns-clause-ok
returns-clause-ok c =
    let h = c.in-Some.header in
    let d = c.in-Some.piece in
    (Data h d, data_heard c.args.octets.now h d c.in-Some.ensures.found c.if-header.false, c.transaction_of.ensures, c.file_data.ensures)
