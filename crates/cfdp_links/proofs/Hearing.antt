-- What octets that came may be handed in as.
use Rattle.std.proofs.Common.{◌≡◌, ℕ, List, Some, Result, Ok, Err, refl}
use Rattle.cfdp_pdus.specs.First.{pdu_at}
use Rattle.cfdp_pdus.specs.declared.pdu.Pdu.{Pdu}
use Rattle.cfdp_pdus.specs.declared.fault.PduFault.{PduFault}
use Rattle.cfdp_pdus.proofs.PduSteps.{pdu_found}
use Rattle.cfdp_pdus.proofs.SoundSteps.{AreOctets, pdu_sound}
use Rattle.cfdp_transactions.specs.declared.event.Event.{Event}
use Rattle.cfdp_transactions.specs.Writable.{IsReadable, ReadIsReadable}
use Rattle.cfdp_transactions.specs.Events.{event_from}
use Rattle.cfdp_engine.specs.Working.{event_in, event_read}

-- the event of octets that came
event_readable : ReadIsReadable → (octets : List ℕ) (event : Event) → AreOctets octets → (read : Result Pdu PduFault) → pdu_at octets ≡ read →
    event_read (event_from read) ≡ Some event → IsReadable event
event_readable law octets event are (Ok pdu) same is = law pdu event (pdu_sound octets pdu are (pdu_found octets (Ok pdu) same)) is
event_readable law octets event are (Err fault) same is = cc is

pub octets_readable : ReadIsReadable → (octets : List ℕ) → AreOctets octets → (event : Event) → event_in octets ≡ Some event → IsReadable event
octets_readable law octets are event is = event_readable law octets event are (pdu_at octets) refl is
