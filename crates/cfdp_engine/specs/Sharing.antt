-- What the threads that share a journaled core learn of it.
--     stop_text                 why an event was not taken
--     IsReceived                a seat has one receipt more
--     receipt_events            the events of some receipts
--     AddsReceipts P old new    a seat has more receipts than before, and of the events that they are for P holds
use Rattle.std.specs.Prelude.{◌≡◌, ℕ, codes, IsTrue, List, [], ◌∷◌, ◌++◌, map}
use Rattle.cfdp_transactions.specs.declared.event.Event.{Event}
use Rattle.cfdp_transactions.specs.declared.reply.Reply.{Reply}
use Rattle.cfdp_engine.specs.Journal.{is_answered}
use Rattle.cfdp_engine.specs.Seats.{Seated, Receipt}
use Rattle.cfdp_engine.specs.declared.stop.Stop.{Stop}
use Rattle.cfdp_engine.specs.declared.stop.Stop.TheVariants as stops

abbrev pub stop_text : Stop → List ℕ
stop_text stops.Memory = codes "out of memory"
stop_text stops.JournalFull = codes "the journal is full"

-- one receipt more, of an event that was taken, with some reply
pub record IsReceived (old new : Seated) (index : ℕ) (event : Event) : Type 0 where
  pub reply : Reply
  pub answered : IsTrue (is_answered reply)
  pub number : new.number ≡ old.number
  pub receipts : new.receipts ≡ old.receipts ++ record { place = index; event = event; reply = reply } ∷ []

abbrev pub receipt_events : List Receipt → List Event
receipt_events receipts = map (λ r. r.event) receipts

pub record AddsReceipts (P : List Event → Type 0) (old new : Seated) : Type 0 where
  pub added : List Receipt
  pub number : new.number ≡ old.number
  pub receipts : new.receipts ≡ old.receipts ++ added
  pub events : P (receipt_events added)
