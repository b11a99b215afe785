-- What a receiving entity makes of an upload (CCSDS 727.0-B-5, copy file procedures).
--   data_events          the File Data PDUs of some pieces, as events
--   upload_events        the PDUs of an upload, as events
--   kept_after           what is kept after these pieces came
--   StaysFew             after none of these pieces more than 32 separate pieces are kept
--   IsComplete           after the events, the transaction has its whole file, and its items are performed next
--   answers_of           what is replied to an upload that is admitted, and complete after its last PDU
--   OctetsAreEvents      the octets of the PDUs are the events of the upload
--   FileIsKept           what is kept after all pieces is the file, whatever their order
--   AdmittedIsComplete   an upload whose Metadata PDU was admitted is complete after its last PDU
--   InOrderStaysFew      pieces from the first to the last are one piece at all times
use Rattle.std.specs.Prelude.{◌≡◌, ℕ, ◌≤◌, ⊤, true, List, [], ◌∷◌, ◌++◌, length, map, replicate, Some, Ok}
use Rattle.std.specs.List.{range_with_len}
use Rattle.cfdp_verifier.specs.Verdict.{Good, parsed}
use Rattle.cfdp_transactions.specs.Received.{Received, kept_with, staged_of, is_whole, pieces}
use Rattle.cfdp_transactions.specs.Entry.{Entry, has_file, id_of}
use Rattle.cfdp_transactions.specs.declared.phase.Phase.TheVariants.{Executing}
use Rattle.cfdp_transactions.specs.Events.{event_at}
use Rattle.cfdp_transactions.specs.declared.event.Event.{Event}
use Rattle.cfdp_transactions.specs.declared.event.Event.TheVariants.{Metadata as MetadataCame, Data as DataCame, Eof as EofCame}
use Rattle.cfdp_transactions.specs.declared.reply.Reply.{Reply}
use Rattle.cfdp_transactions.specs.declared.reply.Reply.TheVariants as replied
use Rattle.cfdp_transactions.specs.World.{World, entry_of}
use Rattle.cfdp_transactions.specs.Admission.{proposal_of}
use Rattle.cfdp_transactions.specs.Next.{next, run, replies}
use Rattle.cfdp_uploads.specs.Uploads.{UploadFields, IsUpload, eof_of, piece_of, pieces_of, upload_pdus, sent_octets}

abbrev pub data_event : UploadFields → ℕ → Event
data_event u index = DataCame u.header (piece_of u index)

abbrev pub data_events : UploadFields → List ℕ → List Event
data_events u indices = map (data_event u) indices

abbrev pub upload_events : UploadFields → List Event
upload_events u = MetadataCame u.header u.metadata ∷ (data_events u u.order ++ EofCame u.header (eof_of u) ∷ [])

abbrev pub kept_piece : UploadFields → Received → ℕ → Received
kept_piece u rs index = kept_with rs (piece_of u index).offset (piece_of u index).octets

abbrev pub kept_after : UploadFields → Received → List ℕ → Received
kept_after u rs [] = rs
kept_after u rs (index ∷ indices) = kept_after u (kept_piece u rs index) indices

abbrev pub StaysFew : UploadFields → Received → List ℕ → Type 0
StaysFew u rs [] = ⊤
StaysFew u rs (index ∷ indices) = (pieces (kept_piece u rs index) ≤ 32) × StaysFew u (kept_piece u rs index) indices

pub record IsComplete (W V : World) (u : UploadFields) : Type 0 where
  pub entry : Entry
  pub here : entry_of V (id_of u.header) ≡ Some entry
  pub phase : entry.phase ≡ Executing 0
  pub whole : is_whole (length u.file) entry.received ≡ true
  pub staged : staged_of entry.received ≡ u.file
  pub items : parsed (proposal_of W.config u.metadata) ≡ Good entry.items

abbrev pub OctetsAreEvents : Type 0
OctetsAreEvents =
    (u : UploadFields) → IsUpload u →
    map (λ pdu. event_at (sent_octets pdu)) (upload_pdus u) ≡ map (λ event. Ok (Some event)) (upload_events u)

abbrev pub FileIsKept : Type 0
FileIsKept = (u : UploadFields) → IsUpload u → kept_after u [] u.order ≡ map Some u.file

-- to an upload that is admitted with these blocks and steps
abbrev pub answers_of : UploadFields → (blocks steps : ℕ) → List Reply
answers_of u blocks steps =
    replied.Admitted blocks steps ∷ (replicate (length u.order) replied.Stored ++ replied.Complete ∷ [])

pub record Completes (W : World) (u : UploadFields) (blocks steps : ℕ) : Type 0 where
  pub answers : replies W (upload_events u) ≡ answers_of u blocks steps
  pub complete : IsComplete W (run W (upload_events u)) u

abbrev pub AdmittedIsComplete : Type 0
AdmittedIsComplete =
    (W : World) (u : UploadFields) (blocks steps : ℕ) → IsUpload u → has_file u.metadata ≡ true →
    StaysFew u [] u.order → (next W (MetadataCame u.header u.metadata)).1 ≡ replied.Admitted blocks steps →
    Completes W u blocks steps

abbrev pub InOrderStaysFew : Type 0
InOrderStaysFew = (u : UploadFields) → IsUpload u → u.order ≡ range_with_len 0 (pieces_of u) → StaysFew u [] u.order
