-- An input leaves the entries of other transactions in the core as they are.
use Rattle.std.specs.List.{AllByRecursion}
use Rattle.std.proofs.Common.{◌≡◌, ◌≢◌, Bool, true, false, not, ◌&&◌, ◌||◌, ◌==◌, List, [], ◌∷◌, Option, Some, None, refl, sym, ap, ◌∙◌}
use Rattle.std.proofs.lemmas.Bool.{both_ways}
use Rattle.cfdp_status.proofs.Choices.{either_way}
use Rattle.cfdp_status.specs.declared.transaction.TransactionId.{TransactionId}
use Rattle.cfdp_leases.specs.Leases.{is_same}
use Rattle.cfdp_pdus.specs.Values.{MetadataFields}
use Rattle.cfdp_pdus.specs.declared.header.Header.{Header}
use Rattle.cfdp_transactions.specs.Entry.{id_of}
use Rattle.cfdp_transactions.specs.declared.event.Event.{Event}
use Rattle.cfdp_transactions.specs.declared.event.Event.TheVariants.{Metadata as MetadataCame, Data as DataCame, Eof as EofCame, Cancel, Check, Take}
use Rattle.cfdp_transactions.specs.Events.{about}
use Rattle.cfdp_transactions.specs.Headline.{NextIsSound, NextIsPromised}
use Rattle.cfdp_transactions.specs.Next.{next, run}
use Rattle.cfdp_transactions.specs.Sound.{Sound}
use Rattle.cfdp_transactions.specs.World.{World, next_runnable}
use Rattle.cfdp_sessions.specs.Sessions.{SessionFields, session_id}
use Rattle.cfdp_sessions.specs.declared.session.Stage.{Stage}
use Rattle.cfdp_sessions.specs.declared.session.Stage.TheVariants.{Held, Known, Over as OverStage, Waiting}
use Rattle.cfdp_sessions.proofs.Names.{found_name}
use Rattle.cfdp_receiver.specs.declared.mib.Handler.{Handler}
use Rattle.cfdp_receiver.specs.declared.mib.Handler.TheVariants as handlers
use Rattle.cfdp_receiver.specs.State.{State, Input, MetadataPdu, DataPdu, EofPdu, AckPdu, PromptPdu, OtherPdu, Expire, Work, Finish, CancelAsked, ForgetAsked, ClockMoved, NotTaken, now_of, session_of, is_closed, at_of, lacks_room}
use Rattle.cfdp_receiver.specs.Due as Dues
use Rattle.cfdp_receiver.specs.Handing as Handing
use Rattle.cfdp_receiver.specs.Turning.{after_input, after_all}
use Rattle.cfdp_receiver.specs.Laws.{due_name, session_name, touched_in, touched, is_work, OthersKeepEntries, WorkKeepsOthers}
use Rattle.cfdp_receiver.proofs.HandedOn.{entries_stay}
use Rattle.cfdp_leases.proofs.Held.{same_itself}

abbrev NotAbout : TransactionId → List Event → Type 0
NotAbout id es = AllByRecursion (λ v. id ≢ about v) es

not_known : (id : TransactionId) (stage : Stage) (es : List Event) → NotAbout id es → NotAbout id (Handing.where_known stage es)
not_known id (Held eof) es h = tt
not_known id Known es h = h
not_known id (OverStage ending) es h = tt
not_known id Waiting es h = tt

not_session : (id : TransactionId) (o : Option SessionFields) (es : List Event) → NotAbout id es → NotAbout id (Handing.of_session o es)
not_session id None es h = tt
not_session id (Some s) es h = not_known id s.stage es h

pub other_than : (n id : TransactionId) → is_same n id ≡ false → id ≢ n
other_than n id other e = both_ways (is_same n id) other (ap (is_same n) e ∙ same_itself n)

not_metadata_stage : (id : TransactionId) (h : Header) (m : MetadataFields) (s : SessionFields) (stage : Stage) → id ≢ id_of h → session_id s ≡ id_of h →
    NotAbout id (Handing.metadata_in_stage h m s stage)
not_metadata_stage id h m s (Held eof) ne name =
    either_way (NotAbout id) h.acknowledged (MetadataCame h m ∷ EofCame s.header eof ∷ []) [] (ne, ((λ e. ne (e ∙ name)), tt)) tt
not_metadata_stage id h m s Known ne name = (ne, tt)
not_metadata_stage id h m s (OverStage ending) ne name = tt
not_metadata_stage id h m s Waiting ne name = tt

not_metadata : (R : State) (id : TransactionId) (h : Header) (m : MetadataFields) (o : Option SessionFields) → id ≢ id_of h → session_of R (id_of h) ≡ o →
    NotAbout id (Handing.metadata_events R h m o)
not_metadata R id h m None ne here = either_way (NotAbout id) (is_closed R (id_of h) || lacks_room R (id_of h)) [] (MetadataCame h m ∷ []) tt (ne, tt)
not_metadata R id h m (Some s) ne here = not_metadata_stage id h m s s.stage ne (found_name R.sessions (id_of h) s here)

not_limit : (id n : TransactionId) (checks : Bool) (how : Handler) → id ≢ n → NotAbout id (Handing.limit_events n checks how)
not_limit id n checks handlers.Ignore ne = tt
not_limit id n true handlers.Cancel ne = (ne, tt)
not_limit id n false handlers.Cancel ne = (ne, tt)
not_limit id n true handlers.Abandon ne = (ne, tt)
not_limit id n false handlers.Abandon ne = (ne, tt)

not_due : (R : State) (id : TransactionId) (due : Dues.Due) → id ≢ due_name due → NotAbout id (Handing.due_events R due)
not_due R id Dues.Nothing_due ne = tt
not_due R id (Dues.Alive_due s) ne = tt
not_due R id (Dues.Stage_due s false) ne =
    not_known id s.stage _ (either_way (NotAbout id) (Handing.makes_checks s.header.acknowledged (at_of R.world s)) (Check (session_id s) ∷ []) [] (ne, tt) tt)
not_due R id (Dues.Stage_due s true) ne =
    not_known id s.stage _ (not_limit id (session_id s) (Handing.makes_checks s.header.acknowledged (at_of R.world s))
    (Dues.handler_at R.mib s.header.acknowledged (at_of R.world s)) ne)

not_take : (id : TransactionId) (o : Option SessionFields) → id ≢ session_name o → NotAbout id (Handing.take_of o)
not_take id None ne = tt
not_take id (Some s) ne = not_known id s.stage (Take (session_id s) ∷ []) (ne, tt)

not_handed : (R : State) (i : Input) (id : TransactionId) → is_work i ≡ false → id ≢ touched_in R i → NotAbout id (Handing.events_of R i)
not_handed R (MetadataPdu now h m) id w ne =
    either_way (NotAbout id) (Handing.is_ours R h) (Handing.metadata_events R h m (session_of R (id_of h))) []
    (not_metadata R id h m (session_of R (id_of h)) ne refl) tt
not_handed R (DataPdu now h piece) id w ne =
    either_way (NotAbout id) (Handing.is_ours R h) (Handing.of_session (session_of R (id_of h)) (DataCame h piece ∷ [])) []
    (not_session id (session_of R (id_of h)) (DataCame h piece ∷ []) (ne, tt)) tt
not_handed R (EofPdu now h eof) id w ne =
    either_way (NotAbout id) (Handing.is_ours R h) (Handing.of_session (session_of R (id_of h)) (Handing.eof_events R h eof)) []
    (not_session id (session_of R (id_of h)) (Handing.eof_events R h eof)
    (either_way (NotAbout id) (not (eof.condition == 0) && Handing.is_list_begun R (id_of h)) [] (EofCame h eof ∷ []) tt (ne, tt))) tt
not_handed R (AckPdu now h ack) id w ne = tt
not_handed R (PromptPdu now h prompt) id w ne = tt
not_handed R (OtherPdu now h) id w ne = tt
not_handed R (Expire now) id w ne = not_due R id (Dues.first_due R R.sessions) ne
not_handed R (Work now) id w ne = absurd cc
not_handed R (Finish now) id w ne = not_take id (Dues.first_over R.world R.sessions) ne
not_handed R (CancelAsked now n) id w ne =
    not_session id (session_of R n) (Handing.cancel_events R n) (either_way (NotAbout id) (Handing.is_list_begun R n) [] (Cancel n ∷ []) tt (ne, tt))
not_handed R ForgetAsked id w ne = tt
not_handed R (ClockMoved now) id w ne = tt
not_handed R NotTaken id w ne = tt

not_step : (id : TransactionId) (o : Option TransactionId) → o ≢ Some id → NotAbout id (Handing.step_of o)
not_step id None ne = tt
not_step id (Some n) ne = ((λ e. ne (ap (λ (x : TransactionId). Some x) (sym e))), tt)

pub others_keep_entries : NextIsSound → NextIsPromised → OthersKeepEntries
others_keep_entries next_sound promised R i id sound w other =
    entries_stay next_sound promised R.world (Handing.handed R i) id sound (not_handed (Handing.later (now_of i) R) i id w (other_than (touched R i) id other))

pub work_keeps_others : NextIsSound → NextIsPromised → WorkKeepsOthers
work_keeps_others next_sound promised R now id sound ne =
    entries_stay next_sound promised R.world (Handing.handed R (Work now)) id sound (not_step id (next_runnable R.world.table) ne)

pub run_sound : NextIsSound → (W : World) (es : List Event) → Sound W → Sound (run W es)
run_sound next_sound W [] s = s
run_sound next_sound W (v ∷ vs) s = run_sound next_sound (next W v).0 vs (next_sound W v s)

pub sound_all : NextIsSound → (R : State) (inputs : List Input) → Sound R.world → Sound (after_all R inputs).world
sound_all next_sound R [] s = s
sound_all next_sound R (i ∷ is) s = sound_all next_sound (after_input R i) is (run_sound next_sound R.world (Handing.handed R i) s)
