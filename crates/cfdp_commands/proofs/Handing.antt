-- What may be handed in to an entity, and that the reply to octets that came can be written.
use Rattle.std.proofs.Common.{◌≡◌, ◌∙◌, sym, ◌++◌, append-nil, ℕ, List, Bool, true, false, true≢false, Option, Some, None, Result, Ok, Err, refl, ap, subst}
use Rattle.std.specs.Prelude.{if◌then◌else◌}
use Rattle.cfdp_status.specs.declared.transaction.TransactionId.{TransactionId}
use Rattle.cfdp_pdus.specs.First.{pdu_at}
use Rattle.cfdp_pdus.specs.declared.pdu.Pdu.{Pdu}
use Rattle.cfdp_pdus.specs.declared.pdu.Pdu.TheVariants as pdus
use Rattle.cfdp_pdus.specs.declared.fault.PduFault.{PduFault}
use Rattle.cfdp_transactions.specs.declared.event.Event.{Event}
use Rattle.cfdp_transactions.specs.declared.event.Event.TheVariants.{Metadata, Data, Eof}
use Rattle.cfdp_transactions.specs.declared.reply.Reply.{Reply}
use Rattle.cfdp_transactions.specs.declared.reply.Reply.TheVariants as replied
use Rattle.cfdp_transactions.specs.Events.{about, event_at, event_from, event_of, is_take}
use Rattle.cfdp_transactions.specs.Next.{next}
use Rattle.cfdp_transactions.specs.World.{World}
use Rattle.cfdp_transactions.specs.Writable.{FitsReply, IsReadable}
use Rattle.cfdp_transactions.proofs.Promises.OnlyTakeHandsOut.{only_take_hands_out}
use Rattle.cfdp_entity.specs.Hearing.{heard_event, heard_event_in}
use Rattle.cfdp_texts.specs.Replies.{reply_line}
use Rattle.cfdp_commands.specs.Commands.{local_event}
use Rattle.cfdp_commands.specs.Replay.{Running, read_and_run}
use Rattle.cfdp_commands.specs.declared.commands.Local.{Local}
use Rattle.cfdp_commands.specs.declared.commands.Local.TheVariants.{Step, Cancel, Check, Take}

-- what happens at the entity itself
pub local_readable : (which : Local) (id : TransactionId) → IsReadable (local_event which id)
local_readable Step id = tt
local_readable Cancel id = tt
local_readable Check id = tt
local_readable Take id = tt

-- ---- octets that came

some_in : (came : Option Event) (event : Event) → heard_event_in (Ok came) ≡ Ok event → came ≡ Some event
some_in None event same = absurd cc
some_in (Some other) event same = let is : other ≡ event = cc in cc

found_in : (read : Result (Option Event) PduFault) (event : Event) → heard_event_in read ≡ Ok event → read ≡ Ok (Some event)
found_in (Err fault) event same = absurd cc
found_in (Ok came) event same = ap Ok (some_in came event same)

-- the event that was heard is that of the octets
pub event_heard : (octets : List ℕ) (event : Event) → heard_event octets ≡ Ok event → event_at octets ≡ Ok (Some event)
event_heard octets event same = found_in (event_at octets) event same

-- ---- no PDU asks for an outcome

not_away : (away : Bool) (came event : Event) → is_take came ≡ false → (if away then None else Some came) ≡ Some event → is_take event ≡ false
not_away true came event other same = absurd cc
not_away false came event other same = let is : came ≡ event = cc in subst (λ (e : Event). is_take e ≡ false) is other

comes_otherwise : (pdu : Pdu) (event : Event) → event_of pdu ≡ Some event → is_take event ≡ false
comes_otherwise (pdus.Metadata h m) event same = not_away h.toward_sender (Metadata h m) event refl same
comes_otherwise (pdus.FileData h piece) event same = not_away h.toward_sender (Data h piece) event refl same
comes_otherwise (pdus.Eof h eof) event same = not_away h.toward_sender (Eof h eof) event refl same
comes_otherwise (pdus.Finished h finished) event same = absurd cc
comes_otherwise (pdus.NotOurs h directive) event same = absurd cc

heard_otherwise : (read : Result Pdu PduFault) (event : Event) → heard_event_in (event_from read) ≡ Ok event → is_take event ≡ false
heard_otherwise (Err fault) event same = absurd cc
heard_otherwise (Ok pdu) event same = comes_otherwise pdu event (some_in (event_of pdu) event same)

-- so no reply to one has an outcome
pub heard_fits : (W V : World) (octets : List ℕ) (event : Event) (reply : Reply) → heard_event octets ≡ Ok event → next W event ≡ (V, reply) → FitsReply reply
heard_fits W V octets event (replied.Taken outcome) same follows =
    absurd (true≢false (only_take_hands_out W event (replied.Taken outcome) V follows (heard_otherwise (pdu_at octets) event same)))
heard_fits W V octets event reply same follows = tt

-- what is written of an event that was heard is what its octets come to
pub heard_stated : (W V : World) (octets : List ℕ) (event : Event) (id : TransactionId) (reply : Reply) (before after : List ℕ)
    → heard_event octets ≡ Ok event → id ≡ about event → next W event ≡ (V, reply) → after ≡ before ++ reply_line id reply
    → (lines : List ℕ) × (read_and_run W (event_at octets) ≡ (Running V, lines)) × (after ≡ before ++ lines)
heard_stated W V octets event id reply before after same named follows written = (
  reply_line id reply,
  ap (read_and_run W) (event_heard octets event same)
      ∙ ap (λ (text : List ℕ). (Running (next W event).0, text)) (append-nil (reply_line (about event) (next W event).1))
      ∙ ap (λ (a : World × Reply). (Running a.0, reply_line (about event) a.1)) follows
      ∙ ap (λ (n : TransactionId). (Running V, reply_line n reply)) (sym named),
  written,
)
