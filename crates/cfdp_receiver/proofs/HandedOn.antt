-- What is handed to the core.
use Rattle.std.proofs.Common.{◌≤◌, Bool, true, false, not, ◌&&◌, ◌||◌, ◌==◌, if◌then◌else◌, List, [], ◌∷◌, length, Option, Some, None, refl, sym, ◌∙◌, arith}
use Rattle.std.proofs.lemmas.Bool.{cond_both}
use Rattle.cfdp_status.specs.declared.transaction.TransactionId.{TransactionId}
use Rattle.cfdp_pdus.specs.Values.{MetadataFields}
use Rattle.cfdp_pdus.specs.declared.header.Header.{Header}
use Rattle.cfdp_transactions.specs.declared.event.Event.{Event}
use Rattle.cfdp_transactions.specs.declared.event.Event.TheVariants.{Metadata as MetadataCame, Eof as EofCame, Cancel, Check}
use Rattle.cfdp_transactions.specs.Entry.{id_of}
use Rattle.cfdp_transactions.specs.World.{World, next_runnable}
use Rattle.cfdp_transactions.specs.Next.{next}
use Rattle.cfdp_sessions.specs.Sessions.{SessionFields, session_id}
use Rattle.cfdp_sessions.specs.declared.session.Stage.{Stage}
use Rattle.cfdp_sessions.specs.declared.session.Stage.TheVariants.{Held, Known, Over, Waiting}
use Rattle.cfdp_receiver.specs.declared.mib.Handler.{Handler}
use Rattle.cfdp_receiver.specs.declared.mib.Handler.TheVariants as handlers
use Rattle.cfdp_receiver.specs.State.{State, Input, MetadataPdu, DataPdu, EofPdu, AckPdu, PromptPdu, OtherPdu, Expire, Work, Finish, CancelAsked, ForgetAsked, ClockMoved, NotTaken, now_of, session_of, is_closed, at_of, lacks_room}
use Rattle.cfdp_receiver.specs.Due.{Due, Nothing_due, Stage_due, Alive_due, first_due, first_over}
use Rattle.cfdp_receiver.specs.Handing.{is_ours, later, is_list_begun, metadata_in_stage, metadata_events, where_known, of_session, makes_checks, limit_events, due_events, step_of, take_of, events_of, handed}
use Rattle.cfdp_receiver.specs.Turning.{after_input, all_handed}
use Rattle.cfdp_transactions.specs.Headline.{NextIsSound, NextIsPromised, Promised, AtEach}
use Rattle.cfdp_transactions.specs.Sound.{Sound}
use Rattle.cfdp_transactions.proofs.Runs.{run-append}
use Rattle.cfdp_receiver.specs.Laws.{HandsOn, HeadlineHolds, FewEvents, EntriesStay}

pub hands_on : HandsOn
hands_on R [] = refl
hands_on R (i ∷ is) = hands_on (after_input R i) is ∙ sym (run-append R.world (handed R i) (all_handed (after_input R i) is))

at_each : NextIsSound → NextIsPromised → (W : World) (events : List Event) → Sound W → AtEach Sound Promised W events
at_each sound promised W [] s = s
at_each sound promised W (v ∷ vs) s = (s, promised W v s, at_each sound promised (next W v).0 vs (sound W v s))

pub headline_holds : NextIsSound → NextIsPromised → HeadlineHolds
headline_holds sound promised R inputs s = at_each sound promised R.world (all_handed R inputs) s

-- two at most --------------------------------------------------------------------------

abbrev Few : List Event → Type 0
Few events = length events ≤ 2

few_known : (stage : Stage) (events : List Event) → Few events → Few (where_known stage events)
few_known (Held eof) events h = omega arith
few_known Known events h = h
few_known (Over ending) events h = omega arith
few_known Waiting events h = omega arith

few_session : (s : Option SessionFields) (events : List Event) → Few events → Few (of_session s events)
few_session None events h = omega arith
few_session (Some s) events h = few_known s.stage events h

few_limit : (id : TransactionId) (checks : Bool) (how : Handler) → Few (limit_events id checks how)
few_limit id checks handlers.Ignore = omega arith
few_limit id true handlers.Cancel = omega arith
few_limit id false handlers.Cancel = omega arith
few_limit id checks handlers.Abandon = omega arith

few_check : (b : Bool) (id : TransactionId) → Few (if b then Check id ∷ [] else [])
few_check true id = omega arith
few_check false id = omega arith

few_unless : (b : Bool) (v : Event) → Few (if b then [] else v ∷ [])
few_unless true v = omega arith
few_unless false v = omega arith

few_due : (R : State) (due : Due) → Few (due_events R due)
few_due R Nothing_due = omega arith
few_due R (Alive_due s) = omega arith
few_due R (Stage_due s false) = few_known s.stage _ (few_check (makes_checks s.header.acknowledged (at_of R.world s)) (session_id s))
few_due R (Stage_due s true) = few_known s.stage _ (few_limit _ _ _)

few_step : (id : Option TransactionId) → Few (step_of id)
few_step None = omega arith
few_step (Some id) = omega arith

few_take : (s : Option SessionFields) → Few (take_of s)
few_take None = omega arith
few_take (Some s) = few_known s.stage _ (omega arith)

few_in_stage : (h : Header) (m : MetadataFields) (s : SessionFields) (stage : Stage) → Few (metadata_in_stage h m s stage)
few_in_stage h m s (Held eof) = cond_both h.acknowledged _ [] Few (λ _. omega arith) (λ _. omega arith)
few_in_stage h m s Known = omega arith
few_in_stage h m s (Over ending) = omega arith
few_in_stage h m s Waiting = omega arith

few_metadata : (R : State) (h : Header) (m : MetadataFields) (s : Option SessionFields) → Few (metadata_events R h m s)
few_metadata R h m None = few_unless (is_closed R (id_of h) || lacks_room R (id_of h)) (MetadataCame h m)
few_metadata R h m (Some s) = few_in_stage h m s s.stage

few : (R : State) (i : Input) → Few (events_of R i)
few R (MetadataPdu now h m) = cond_both (is_ours R h) _ [] Few (λ _. few_metadata R h m (session_of R (id_of h))) (λ _. omega arith)
few R (DataPdu now h piece) = cond_both (is_ours R h) _ [] Few (λ _. few_session (session_of R (id_of h)) _ (omega arith)) (λ _. omega arith)
few R (EofPdu now h eof) =
    cond_both (is_ours R h) _ [] Few
    (λ _. few_session (session_of R (id_of h)) _ (few_unless (not (eof.condition == 0) && is_list_begun R (id_of h)) (EofCame h eof))) (λ _. omega arith)
few R (AckPdu now h ack) = omega arith
few R (PromptPdu now h prompt) = omega arith
few R (OtherPdu now h) = omega arith
few R (Expire now) = few_due R (first_due R R.sessions)
few R (Work now) = few_step (next_runnable R.world.table)
few R (Finish now) = few_take (first_over R.world R.sessions)
few R (CancelAsked now id) = few_session (session_of R id) _ (few_unless (is_list_begun R id) (Cancel id))
few R ForgetAsked = omega arith
few R (ClockMoved now) = omega arith
few R NotTaken = omega arith

pub few_events : FewEvents
few_events R i = few (later (now_of i) R) i

-- the others in the core ---------------------------------------------------------------

pub entries_stay : NextIsSound → NextIsPromised → EntriesStay
entries_stay sound promised W [] id s all = refl
entries_stay sound promised W (v ∷ vs) id s all =
    entries_stay sound promised (next W v).0 vs id (sound W v s) all.1 ∙ (promised W v s).others id all.0
