-- What octets that came bring to a receiving entity (CCSDS 727.0-B-5 §5.1 to §5.3).
--   heard_event octets      the event of the PDU that they spell, or why there is none
--   IsUnheard octets why    why there was no reply: that there is none, or out of memory
--   MayLackMemory octets    they spell a Metadata PDU: only this is copied
use Rattle.std.specs.Prelude.{◌≡◌, ◌⊎◌, ⊤, ℕ, List, Option, Some, None, Result, Ok, Err}
use Rattle.cfdp_pdus.specs.First.{pdu_at}
use Rattle.cfdp_pdus.specs.declared.pdu.Pdu.{Pdu}
use Rattle.cfdp_pdus.specs.declared.pdu.Pdu.TheVariants as pdus
use Rattle.cfdp_pdus.specs.declared.fault.PduFault.{PduFault}
use Rattle.cfdp_pdus.specs.declared.fault.PduFault.TheVariants.{Memory}
use Rattle.cfdp_transactions.specs.Events.{event_at}
use Rattle.cfdp_transactions.specs.declared.event.Event.{Event}
use Rattle.cfdp_entity.specs.declared.fault.NotHeard.{NotHeard}
use Rattle.cfdp_entity.specs.declared.fault.NotHeard.TheVariants.{Fault, NotOurs}

abbrev pub heard_event_in : Result (Option Event) PduFault → Result Event NotHeard
heard_event_in (Ok None) = Err NotOurs
heard_event_in (Ok (Some event)) = Ok event
heard_event_in (Err fault) = Err (Fault fault)

abbrev pub heard_event : List ℕ → Result Event NotHeard
heard_event octets = heard_event_in (event_at octets)

abbrev pub IsReadMetadata : Result Pdu PduFault → Type 0
IsReadMetadata (Ok (pdus.Metadata header metadata)) = ⊤
IsReadMetadata read = ⊥

abbrev pub MayLackMemory : List ℕ → Type 0
MayLackMemory octets = IsReadMetadata (pdu_at octets)

abbrev pub IsUnheard : List ℕ → NotHeard → Type 0
IsUnheard octets why = (heard_event octets ≡ Err why) ⊎ ((why ≡ Fault Memory) × MayLackMemory octets)
