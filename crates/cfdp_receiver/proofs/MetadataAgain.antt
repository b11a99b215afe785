-- A Metadata PDU that comes again.
use Rattle.std.proofs.Common.{◌≡◌, inl, inr, ℕ, true, ◌||◌, List, [], ◌∷◌, Option, Some, None, refl, ap, ◌∙◌}
use Rattle.std.specs.Prelude.{◌==◌, is_some}
use Rattle.std.proofs.lemmas.Bool.{cond_both, cond-true, or_left, or_cases}
use Rattle.cfdp_pdus.specs.Values.{MetadataFields}
use Rattle.cfdp_pdus.specs.declared.header.Header.{Header}
use Rattle.cfdp_sessions.specs.Sessions.{SessionFields}
use Rattle.cfdp_sessions.specs.declared.session.Stage.{Stage}
use Rattle.cfdp_sessions.specs.declared.session.Stage.TheVariants.{Held, Known, Over, Waiting}
use Rattle.cfdp_transactions.specs.Admission.{metadata_came}
use Rattle.cfdp_transactions.specs.Entries.{OnlyTakeRemoves, TakeRemoves}
use Rattle.cfdp_transactions.specs.Entry.{Entry, id_of}
use Rattle.cfdp_transactions.specs.Headline.{NextIsSound, NextIsPromised}
use Rattle.cfdp_transactions.specs.Next.{for_us, next, run}
use Rattle.cfdp_transactions.specs.World.{World, entry_of}
use Rattle.cfdp_transactions.specs.declared.event.Event.{Event}
use Rattle.cfdp_transactions.specs.declared.event.Event.TheVariants.{Metadata as MetadataCame}
use Rattle.cfdp_transactions.specs.declared.reply.Reply.{Reply}
use Rattle.cfdp_transactions.specs.declared.reply.Reply.TheVariants as replies
use Rattle.cfdp_receiver.specs.State.{State, begin, MetadataPdu, session_of, is_closed, lacks_room}
use Rattle.cfdp_receiver.specs.Handing.{is_ours, later, metadata_in_stage, metadata_events}
use Rattle.cfdp_receiver.specs.Turning.{after_input, after_all, is_known}
use Rattle.cfdp_receiver.specs.Laws.{IsPast, Past_closed, Past_over, Past_waiting, NoneAgain, NotBegunAnew, knows, AreKnown, is_begun_in, is_begun, RememberedStays, AtMostOnce}
use Rattle.cfdp_receiver.proofs.Distinct.{closed_is_over}
use Rattle.cfdp_receiver.proofs.SessionsAreKnown.{known_is_entry}

-- ---- of what is past

past_events : (R : State) (now : ℕ) (h : Header) (m : MetadataFields) → IsPast R (id_of h) →
    metadata_events (later now R) h m (session_of R (id_of h)) ≡ []
past_events R now h m (Past_closed none closed) =
    ap (metadata_events (later now R) h m) none
    ∙ cond-true (is_closed R (id_of h) || lacks_room R (id_of h)) [] (MetadataCame h m ∷ []) (or_left (is_closed R (id_of h)) (lacks_room R (id_of h)) closed)
past_events R now h m (Past_over s ending here over) = ap (metadata_events (later now R) h m) here ∙ ap (metadata_in_stage h m s) over
past_events R now h m (Past_waiting s here waits) = ap (metadata_events (later now R) h m) here ∙ ap (metadata_in_stage h m s) waits

pub none_again : NoneAgain
none_again R now h m past =
    cond_both (is_ours (later now R) h) (metadata_events (later now R) h m (session_of R (id_of h))) [] (λ (es : List Event). es ≡ [])
    (λ e. past_events R now h m past) (λ e. refl)

-- ---- of what the core knows

pub known_same : (W : World) (h : Header) (m : MetadataFields) (entry : Entry) → entry_of W (id_of h) ≡ Some entry → (next W (MetadataCame h m)).0 ≡ W
known_same W h m entry there =
    ap (λ (o : Option Entry). (for_us W h (metadata_came W h m o)).0) there
    ∙ cond_both (h.destination == W.config.entity) (W, replies.Duplicate) (W, replies.NotForUs) (λ (x : World × Reply). x.0 ≡ W) (λ e. refl) (λ e. refl)

pub not_begun_anew : NotBegunAnew
not_begun_anew R now h m s entry here known there =
    cond_both (is_ours (later now R) h) (metadata_events (later now R) h m (session_of R (id_of h))) [] (λ (es : List Event). run R.world es ≡ R.world)
    (λ e. ap (run R.world) (ap (metadata_events (later now R) h m) here ∙ ap (metadata_in_stage h m s) known) ∙ known_same R.world h m entry there)
    (λ e. refl)

-- ---- of what is remembered

abbrev Stays : State → ℕ → Header → MetadataFields → Type 0
Stays R now h m = (after_input R (MetadataPdu now h m)).world ≡ R.world

past_stays : (R : State) (now : ℕ) (h : Header) (m : MetadataFields) → IsPast R (id_of h) → Stays R now h m
past_stays R now h m past = ap (run R.world) (none_again R now h m past)

-- known, with an entry in the core
entry_stays : (R : State) (now : ℕ) (h : Header) (m : MetadataFields) (s : SessionFields) (o : Option Entry) → session_of R (id_of h) ≡ Some s →
    s.stage ≡ Known → entry_of R.world (id_of h) ≡ o → is_some o ≡ true → Stays R now h m
entry_stays R now h m s None here known there e = absurd cc
entry_stays R now h m s (Some entry) here known there e = not_begun_anew R now h m s entry here known there

stage_stays : (R : State) (now : ℕ) (h : Header) (m : MetadataFields) (s : SessionFields) (stage : Stage) → AreKnown R → session_of R (id_of h) ≡ Some s →
    s.stage ≡ stage → is_begun_in stage ≡ true → Stays R now h m
stage_stays R now h m s (Held eof) known here is begun = absurd cc
stage_stays R now h m s Known known here is begun =
    entry_stays R now h m s (entry_of R.world (id_of h)) here is refl (known (id_of h) ∙ ap knows here ∙ ap is_known is)
stage_stays R now h m s (Over ending) known here is begun = past_stays R now h m (Past_over s ending here is)
stage_stays R now h m s Waiting known here is begun = past_stays R now h m (Past_waiting s here is)

begun_stays : (R : State) (now : ℕ) (h : Header) (m : MetadataFields) (o : Option SessionFields) → AreKnown R → session_of R (id_of h) ≡ o →
    is_begun o ≡ true → Stays R now h m
begun_stays R now h m None known here begun = absurd cc
begun_stays R now h m (Some s) known here begun = stage_stays R now h m s s.stage known here refl begun

pub remembered_stays : RememberedStays
remembered_stays R now h m known over remembered = elim (or_cases (is_closed R (id_of h)) (is_begun (session_of R (id_of h))) remembered) [
  | inl closed ↦ past_stays R now h m (Past_closed (over closed) closed)
  | inr begun ↦ begun_stays R now h m (session_of R (id_of h)) known refl begun
]

pub at_most_once : OnlyTakeRemoves → TakeRemoves → NextIsSound → NextIsPromised → AtMostOnce
at_most_once only_take takes sound promised mib W inputs now h m start none remembered =
    remembered_stays (after_all (begin mib W) inputs) now h m (known_is_entry only_take takes sound promised mib W inputs start none)
    (closed_is_over mib W inputs (id_of h)) remembered
