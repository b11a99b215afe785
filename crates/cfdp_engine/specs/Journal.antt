-- The journal: each event that was taken, in order, with the number of the seat that handed it in and the reply.
--     is_answered reply         the event was taken: it was refused neither because it is out of memory nor because the
--                               journal is full
--     journal_events, replies_of  what was handed in;  what was replied
--     IsHistory journal W       the journal is what one thread does: its events, run from the start, give each entry's
--                               reply, and the world after them is W
--     Recorded                the core, and its journal
--     has_full_journal          the journal has no room for another entry
--     entered j seat event reply        the journal after a call: one entry longer, where the event was taken
use Rattle.std.specs.Prelude.{◌≡◌, ℕ, Bool, true, false, nat_le, if◌then◌else◌, List, [], ◌∷◌, ◌++◌, length, map}
use Rattle.cfdp_transactions.specs.declared.event.Event.{Event}
use Rattle.cfdp_transactions.specs.declared.reply.Reply.{Reply}
use Rattle.cfdp_transactions.specs.World.{World, start}
use Rattle.cfdp_transactions.specs.Next.{run, replies}
use Rattle.cfdp_transactions.specs.CoreFields.{CoreFields}
pub use Rattle.cfdp_engine.specs.declared.journal_entry.JournalEntry.{JournalEntry}

abbrev pub is_answered : Reply → Bool
is_answered Reply.Memory = false
is_answered Reply.JournalFull = false
is_answered reply = true

abbrev pub journal_events : List JournalEntry → List Event
journal_events journal = map (λ e. e.event) journal

abbrev pub replies_of : List JournalEntry → List Reply
replies_of journal = map (λ e. e.reply) journal

-- from the start of the configuration, which no event changes
pub record IsHistory (journal : List JournalEntry) (W : World) : Type 0 where
  pub replies : replies (start W.config) (journal_events journal) ≡ replies_of journal
  pub world : run (start W.config) (journal_events journal) ≡ W

pub record Recorded : Type 0 where
  pub core : CoreFields
  pub journal : List JournalEntry

abbrev pub has_full_journal : Recorded → Bool
has_full_journal j = nat_le j.core.world.config.journal (length j.journal)

abbrev pub entered : List JournalEntry → (seat : ℕ) → Event → Reply → List JournalEntry
entered journal seat event reply = if is_answered reply then journal
    ++ record { seat = seat; event = event; reply = reply } ∷ [] else journal
