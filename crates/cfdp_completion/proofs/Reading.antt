-- The octets of the PDUs of an upload are its events.
use Rattle.std.proofs.Common.{◌≡◌, ℕ, List, [], ◌∷◌, ◌++◌, map, Bool, cond, Option, Some, None, Result, Ok, refl, ap, ◌∙◌}
use Rattle.std.specs.List.{AllByRecursion}
use Rattle.cfdp_pdus.specs.declared.pdu.Pdu.{Pdu}
use Rattle.cfdp_pdus.specs.declared.pdu.Pdu.TheVariants as pdus
use Rattle.cfdp_pdus.specs.declared.fault.PduFault.{PduFault}
use Rattle.cfdp_pdus.specs.Grammar.{SpellsPdu}
use Rattle.cfdp_pdus.proofs.PduSteps.{pdu_again}
use Rattle.cfdp_transactions.specs.Events.{event_at, event_from, event_of, to_receiver}
use Rattle.cfdp_transactions.specs.declared.event.Event.{Event}
use Rattle.cfdp_transactions.specs.declared.event.Event.TheVariants.{Metadata as MetadataCame, Eof as EofCame}
use Rattle.cfdp_uploads.specs.Uploads.{UploadFields, IsUpload, eof_of, piece_pdu, upload_pdus, sent_octets}
use Rattle.cfdp_uploads.proofs.Pieces.{read_back}
use Rattle.cfdp_completion.specs.Delivering.{data_event, data_events, OctetsAreEvents}

abbrev Read : Type 0
Read = Result (Option Event) PduFault

abbrev came : Event → Read
came event = Ok (Some event)

abbrev taken : Pdu → Read
taken pdu = Ok (event_of pdu)

each_read : (pdus : List Pdu) → AllByRecursion (λ pdu. SpellsPdu (sent_octets pdu) pdu) pdus → map (λ pdu. event_at (sent_octets pdu)) pdus ≡ map taken pdus
each_read [] all = refl
each_read (pdu ∷ pdus) all =
    ap (λ (read : Result Pdu PduFault). event_from read ∷ map (λ p. event_at (sent_octets p)) pdus) (pdu_again (sent_octets pdu) pdu all.0)
    ∙ ap (λ (l : List Read). taken pdu ∷ l) (each_read pdus all.1)

-- a PDU that goes toward the receiver
ours : (u : UploadFields) → IsUpload u → (event : Event) → to_receiver u.header event ≡ Some event
ours u is event = ap (λ (b : Bool). cond b None (Some event)) is.toward_receiver

pieces_taken : (u : UploadFields) → IsUpload u → (indices : List ℕ)
    → map taken (map (piece_pdu u) indices ++ pdus.Eof u.header (eof_of u) ∷ []) ≡ map came (data_events u indices ++ EofCame u.header (eof_of u) ∷ [])
pieces_taken u is [] = ap (λ (o : Option Event). Ok o ∷ []) (ours u is (EofCame u.header (eof_of u)))
pieces_taken u is (index ∷ indices) =
    ap (λ (o : Option Event). Ok o ∷ map taken (map (piece_pdu u) indices ++ pdus.Eof u.header (eof_of u) ∷ [])) (ours u is (data_event u index))
    ∙ ap (λ (l : List Read). came (data_event u index) ∷ l) (pieces_taken u is indices)

pub octets_events : OctetsAreEvents
octets_events u is =
    each_read (upload_pdus u) (read_back u is)
    ∙ ap (λ (o : Option Event). Ok o ∷ map taken (map (piece_pdu u) u.order ++ pdus.Eof u.header (eof_of u) ∷ []))
    (ours u is (MetadataCame u.header u.metadata))
    ∙ ap (λ (l : List Read). came (MetadataCame u.header u.metadata) ∷ l) (pieces_taken u is u.order)
