-- An event that is taken: one entry more.
use Rattle.std.proofs.Common.{◌≡◌, ℕ, ◌<◌, [], ◌∷◌, ◌++◌, length, refl, ap, subst, arith, length-append}
use Rattle.std.specs.Prelude.{true, IsTrue, IsFalse}
use Rattle.std.proofs.lemmas.Bool.Decides.{nat_tests}
use Rattle.cfdp_transactions.specs.declared.event.Event.{Event}
use Rattle.cfdp_transactions.specs.declared.reply.Reply.{Reply}
use Rattle.cfdp_transactions.specs.World.{World}
use Rattle.cfdp_transactions.specs.CoreFields.{CoreFields}
use Rattle.cfdp_transactions.specs.Next.{next}
use Rattle.cfdp_transactions.specs.Needs.{Follows}
use Rattle.cfdp_engine.specs.Journal.{Recorded, is_answered, has_full_journal, entered}
use Rattle.cfdp_engine.specs.code.Journal.{IsWholeJournal}
use Rattle.cfdp_engine.proofs.ConfigurationKept.{is_journal_full, next_keeps}
use Rattle.cfdp_engine.proofs.Histories.{history_more}

-- a reply other than 'memory' is that of the table of events
pub follows_next : (W : World) (event : Event) (reply : Reply) (V : World) → Follows W event reply V → (reply ≡ Reply.Memory → ⊥) → next W event ≡ (V, reply)
follows_next W event Reply.Memory V follows other = absurd (other refl)
follows_next W event reply V follows other = follows

answered_by : (reply : Reply) → (reply ≡ Reply.Memory → ⊥) → IsFalse (is_journal_full reply) → is_answered reply ≡ true
answered_by Reply.Memory other taken = absurd (other refl)
answered_by Reply.JournalFull other taken = absurd cc
answered_by reply other taken = refl

pub not_full : (reply : Reply) → IsFalse (is_journal_full reply) → reply ≡ Reply.JournalFull → ⊥
not_full reply taken is = let q = ap is_journal_full is in cc

pub below : (j : Recorded) → length j.journal < j.core.world.config.journal → IsTrue (has_full_journal j) → ⊥
below j room full = grind (arith, nat_tests)

module _ (j : Recorded) (seat : ℕ) (event : Event) (reply : Reply) (E : CoreFields) (follows : Follows j.core.world event reply E.world) (other : reply
    ≡ Reply.Memory → ⊥) where
  now : next j.core.world event ≡ (E.world, reply)
  now = follows_next j.core.world event reply E.world follows other

  pub taken : IsFalse (is_journal_full reply)
  taken = subst (λ (a : World × Reply). IsFalse (is_journal_full a.1)) now (next_keeps j.core.world event).reply

  pub entered_more : entered j.journal seat event reply ≡ j.journal ++ record { seat = seat; event = event; reply = reply } ∷ []
  entered_more = rw (answered_by reply other taken) refl

  config : E.world.config ≡ j.core.world.config
  config = subst (λ (a : World × Reply). a.0.config ≡ j.core.world.config) now (next_keeps j.core.world event).config

  pub whole_more : (capacity : ℕ) → IsWholeJournal capacity j → length j.journal < j.core.world.config.journal
      → IsWholeJournal capacity (record { core = E; journal = j.journal ++ record { seat = seat; event = event; reply = reply } ∷ [] })
  whole_more capacity old room = record {
    history = history_more j.journal j.core.world E.world (record { seat = seat; event = event; reply = reply }) old.history now;
    within = rw (config, length-append) (omega arith);
    room = rw config old.room;
  }
