use Rattle.std.proofs.Common.{◌≡◌, ◌∙◌, Result, Ok, arith, sym, ap, subst}
use Rattle.cfdp_tlv.proofs.Steps.{only_ok}
use Rattle.cfdp_pdus.specs.declared.pdu.Pdu.{Pdu}
use Rattle.cfdp_pdus.specs.declared.fault.PduFault.{PduFault}
use Rattle.cfdp_pdus.specs.declared.fault.PduFault.TheVariants.{Memory}
use Rattle.cfdp_pdus.specs.First.{pdu_at}
use Rattle.cfdp_pdus.specs.Grammar.{SpellsPdu}
use Rattle.cfdp_pdus.specs.Sound.{IsSound}
use Rattle.cfdp_pdus.specs.Receiving.{received, received_of}
use Rattle.cfdp_pdus.specs.code.Receiving.{ReceivesLean}
use Rattle.cfdp_pdus.proofs.PduSteps.{pdu_again}
use Rattle.cfdp_pdus.proofs.ReceiveSteps.{result_holds, copied}
use Rattle.cfdp_pdus.proofs.FaultSteps.{never_memory}
use Rattle.cfdp_pdus.proofs.SoundSteps.{octets_from, pdu_sound}
use Rattle.cfdp_pdus.proofs.read.read_for_receiver.Goals as goal

pub returns-clause-found : goal.returns-clause-found
returns-clause-found c =
    let octets = c.args.octets.now in
    result_holds (SpellsPdu octets) octets c.receive_whole.result (λ pdu spelled. spelled) c.receive_whole.ensures.exact

pub returns-clause-only : goal.returns-clause-only
returns-clause-only c = λ pdu spelled.
    let octets = c.args.octets.now in
    only_ok Memory c.receive_whole.result (received_of (pdu_at octets)) (received pdu) c.receive_whole.ensures.exact
    (ap received_of (pdu_again octets pdu spelled))

pub returns-clause-lean : goal.returns-clause-lean
returns-clause-lean c = λ pdu spelled lean.
    let read : pdu_at c.args.octets.now ≡ Ok pdu = pdu_again c.args.octets.now pdu spelled in
    c.receive_whole.ensures.lean (subst (λ (r : Result Pdu PduFault). ReceivesLean r) (sym read) lean) ∙ ap received_of read

pub returns-clause-memory : goal.returns-clause-memory
returns-clause-memory c = λ wanting.
    let octets = c.args.octets.now in
    copied (pdu_at octets) c.receive_whole.result wanting (never_memory octets) c.receive_whole.ensures.exact c.receive_whole.ensures.lean

pub returns-clause-sound : goal.returns-clause-sound
returns-clause-sound c =
    let octets = c.args.octets.now in
    let are = octets_from octets (λ i. omega (arith, c.type_inv.octets i)) in
    result_holds IsSound octets c.receive_whole.result (λ pdu. pdu_sound octets pdu are) c.receive_whole.ensures.exact
