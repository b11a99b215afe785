-- What octets that came bring, from what reading them answers.
use Rattle.std.proofs.Common.{◌≡◌, ℕ, List, Bool, false, Some, Result, Ok, refl, ap, ◌∙◌}
use Rattle.std.specs.Prelude.{if◌then◌else◌, None}
use Rattle.cfdp_pdus.specs.First.{pdu_at}
use Rattle.cfdp_pdus.specs.Values.{FileDataFields}
use Rattle.cfdp_pdus.specs.declared.header.Header.{Header}
use Rattle.cfdp_pdus.specs.declared.pdu.Pdu.{Pdu}
use Rattle.cfdp_pdus.specs.declared.pdu.Pdu.TheVariants as pdus
use Rattle.cfdp_pdus.specs.declared.fault.PduFault.{PduFault}
use Rattle.cfdp_transactions.specs.Events.{event_from}
use Rattle.cfdp_transactions.specs.declared.event.Event.{Event}
use Rattle.cfdp_transactions.specs.declared.event.Event.TheVariants.{Data}
use Rattle.cfdp_entity.specs.Hearing.{heard_event_in, heard_event}

toward_us : (b : Bool) (event : Event) → b ≡ false → heard_event_in (Ok (if b then None else Some event)) ≡ Ok event
toward_us b event same = rw same refl

-- a File Data PDU toward the receiver is heard
pub data_heard : (octets : List ℕ) (h : Header) (d : FileDataFields) → pdu_at octets ≡ Ok (pdus.FileData h d) → h.toward_sender ≡ false → heard_event octets
    ≡ Ok (Data h d)
data_heard octets h d found ours = ap (λ (read : Result Pdu PduFault). heard_event_in (event_from read)) found ∙ toward_us h.toward_sender (Data h d) ours
