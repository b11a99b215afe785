-- One event more in a journal.
use Rattle.std.proofs.Common.{◌≡◌, List, [], ◌∷◌, ◌++◌, refl, ap, sym, ◌∙◌, subst}
use Rattle.cfdp_transactions.specs.declared.event.Event.{Event}
use Rattle.cfdp_transactions.specs.declared.reply.Reply.{Reply}
use Rattle.cfdp_transactions.specs.Config.{Config}
use Rattle.cfdp_transactions.specs.World.{World, start}
use Rattle.cfdp_transactions.specs.Next.{next, run, replies}
use Rattle.cfdp_engine.specs.Journal.{JournalEntry, IsHistory, journal_events, replies_of}
use Rattle.cfdp_engine.proofs.ConfigurationKept.{next_keeps}

run_more : (W : World) (events : List Event) (event : Event) → run W (events ++ event ∷ []) ≡ (next (run W events) event).0
run_more W [] event = refl
run_more W (v ∷ vs) event = run_more (next W v).0 vs event

replies_more : (W : World) (events : List Event) (event : Event) → replies W (events ++ event ∷ []) ≡ replies W events ++ (next (run W events) event).1 ∷ []
replies_more W [] event = refl
replies_more W (v ∷ vs) event = ap (λ rs. (next W v).1 ∷ rs) (replies_more (next W v).0 vs event)

events_more : (journal : List JournalEntry) (e : JournalEntry) → journal_events (journal ++ e ∷ []) ≡ journal_events journal ++ e.event ∷ []
events_more [] e = refl
events_more (d ∷ ds) e = ap (λ vs. d.event ∷ vs) (events_more ds e)

replied_more : (journal : List JournalEntry) (e : JournalEntry) → replies_of (journal ++ e ∷ []) ≡ replies_of journal ++ e.reply ∷ []
replied_more [] e = refl
replied_more (d ∷ ds) e = ap (λ rs. d.reply ∷ rs) (replied_more ds e)

events_end : (journal : List JournalEntry) (W V : World) (e : JournalEntry) → IsHistory journal W → next W e.event ≡ (V, e.reply) →
    run (start W.config) (journal_events (journal ++ e ∷ [])) ≡ V
events_end journal W V e h follows =
    ap (λ (vs : List Event). run (start W.config) vs) (events_more journal e)
    ∙ run_more (start W.config) (journal_events journal) e.event
    ∙ ap (λ (X : World). (next X e.event).0) h.world
    ∙ ap (λ (a : World × Reply). a.0) follows

pub history_more : (journal : List JournalEntry) (W V : World) (e : JournalEntry) → IsHistory journal W → next W e.event ≡ (V, e.reply) → IsHistory
    (journal ++ e ∷ []) V
history_more journal W V e h follows =
    let config : V.config ≡ W.config = ap (λ (a : World × Reply). a.0.config) (sym follows) ∙ (next_keeps W e.event).config in
    record {
      replies = rw (
        config,
        events_more journal e,
        replies_more (start W.config) (journal_events journal) e.event,
        h.world,
        follows,
        replied_more journal e,
        h.replies,
      ) refl;
      world = subst (λ (c : Config). run (start c) (journal_events (journal ++ e ∷ [])) ≡ V) (sym config) (events_end journal W V e h follows);
    }
