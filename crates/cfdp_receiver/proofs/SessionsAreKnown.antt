-- A session is known exactly where the core has an entry of its name.
use Rattle.std.specs.Prelude.{if◌then◌else◌, slice_get, is_some, ◌==◌}
use Rattle.std.proofs.Common.{◌≡◌, inl, inr, ℕ, Bool, true, false, not, ◌&&◌, ◌||◌, List, [], ◌∷◌, ◌++◌, Option, Some, None, refl, sym, ap, subst, ◌∙◌}
use Rattle.std.proofs.lemmas.Bool.{cond_both, cond-true, cond-false, cases_Bool, both_ways}
use Rattle.std.proofs.lemmas.Option.{none-some}
use Rattle.cfdp_status.proofs.Choices.{either_way}
use Rattle.cfdp_status.specs.declared.transaction.TransactionId.{TransactionId}
use Rattle.cfdp_leases.specs.Leases.{is_same}
use Rattle.cfdp_pdus.specs.Values.{MetadataFields, FileDataFields}
use Rattle.cfdp_pdus.specs.declared.eof.Eof.{Eof}
use Rattle.cfdp_directives.specs.declared.ack.Ack.{Ack}
use Rattle.cfdp_directives.specs.declared.ack.TransactionStatus.TheVariants.{Active}
use Rattle.cfdp_directives.specs.declared.prompt.Prompt.{Prompt}
use Rattle.cfdp_pdus.specs.declared.header.Header.{Header}
use Rattle.cfdp_transactions.specs.Ending.{taken_out}
use Rattle.cfdp_transactions.specs.Execution.{stepped}
use Rattle.cfdp_transactions.specs.Entry.{Entry, is_live, id_of}
use Rattle.cfdp_transactions.specs.declared.event.Event.{Event}
use Rattle.cfdp_transactions.specs.declared.event.Event.TheVariants.{Metadata as MetadataCame, Data as DataCame, Eof as EofCame, Step, Cancel, Check, Take}
use Rattle.cfdp_transactions.specs.declared.outcome.Outcome.{Outcome}
use Rattle.cfdp_transactions.specs.declared.phase.Phase.{Phase}
use Rattle.cfdp_transactions.specs.declared.phase.Phase.TheVariants.{Receiving, Awaiting, Executing, Refused, Done, Ended}
use Rattle.cfdp_transactions.specs.declared.reply.Reply.{Reply}
use Rattle.cfdp_transactions.specs.Events.{about, is_take}
use Rattle.cfdp_transactions.specs.Entries.{OnlyTakeRemoves, TakeRemoves}
use Rattle.cfdp_transactions.specs.Next.{next, run, replies}
use Rattle.cfdp_transactions.specs.Sound.{Sound}
use Rattle.cfdp_transactions.specs.World.{World, index_in, entry_of, index_of, next_runnable}
use Rattle.cfdp_retransmission.specs.Timers.{restarted, passed}
use Rattle.cfdp_retransmission.specs.declared.timer.Expiry.TheVariants.{Again}
use Rattle.cfdp_sessions.specs.Sessions.{SessionFields, session_id, found, without_session, AreDistinct}
use Rattle.cfdp_sessions.specs.declared.session.Stage.{Stage}
use Rattle.cfdp_sessions.specs.declared.session.Stage.TheVariants.{Held, Known, Over as OverStage, Waiting}
use Rattle.cfdp_sessions.proofs.Names.{found_name, gone, member_found, replaced_self}
use Rattle.cfdp_receiver.specs.declared.indication.Became.TheVariants as became
use Rattle.cfdp_receiver.specs.declared.indication.Word.TheVariants as words
use Rattle.cfdp_receiver.specs.declared.mib.Handler.{Handler}
use Rattle.cfdp_receiver.specs.declared.mib.Handler.TheVariants as handlers
use Rattle.cfdp_receiver.specs.State.{State, begin, AnswerFields, Input, MetadataPdu, DataPdu, EofPdu, AckPdu, PromptPdu, OtherPdu, Expire, Work, Finish, CancelAsked, ForgetAsked, ClockMoved, NotTaken, now_of, session_of, status_of, is_closed, JointPhase, At_held, At_receiving, At_awaiting, At_executing, At_over, At_waiting, at_phase, at_entry, at_stage, at_of, lacks_room}
use Rattle.cfdp_receiver.specs.Due as Dues
use Rattle.cfdp_receiver.specs.Handing as Handing
use Rattle.cfdp_receiver.specs.Turning as Turning
use Rattle.cfdp_receiver.specs.Laws.{nobody, due_name, session_name, touched_in, touched, knows, AreKnown, KnownIsEntry, is_work}
use Rattle.cfdp_receiver.proofs.Distinct.{distinct_after}
use Rattle.cfdp_receiver.proofs.OthersStay.{other_than, others_keep_entries, run_sound}
use Rattle.cfdp_receiver.proofs.TurnShapes.{others_stay}
use Rattle.cfdp_receiver.proofs.FinishedSentAtMost.{stage_due, alive_due, first_over_is}
use Rattle.cfdp_receiver.proofs.AnswerParts.{heard_name, silent}
use Rattle.cfdp_transactions.specs.Headline.{NextIsSound, NextIsPromised}
use Rattle.cfdp_receiver.proofs.LimitsReached.{not_held}
use Rattle.cfdp_receiver.proofs.Finishing.{waits_phase}
use Rattle.cfdp_receiver.specs.Turning.{is_known}
use Rattle.cfdp_leases.proofs.Held.{same_itself}
use Rattle.cfdp_leases.proofs.Admitted.{same_is}

-- ---- what the core promises of entries

pub record Laws : Type 0 where
  pub only_take : OnlyTakeRemoves
  pub takes : TakeRemoves

abbrev is_there : World → TransactionId → Bool
is_there W id = is_some (entry_of W id)

-- an entry stays, but for Take
stays_there : Laws → (W : World) (v : Event) → Sound W → is_take v ≡ false → is_there W (about v) ≡ true → is_there (next W v).0 (about v) ≡ true
stays_there laws W v s other there = laws.only_take W v (about v) s (λ q. both_ways (is_take v) other (ap is_take q)) there

-- ---- what is known, after one input

-- the events that are handed on, and what becomes of the sessions
abbrev Fits : State → TransactionId → List Event → (World → List Reply → Turning.Parts) → Type 0
Fits R id es p = is_there (run R.world es) id ≡ knows (found (p (run R.world es) (replies R.world es)).sessions id)

fits_if : (R : State) (id : TransactionId) (b : Bool) (es fs : List Event) (p q : World → List Reply → Turning.Parts) → Fits R id es p → Fits R id fs q →
    Fits R id (if b then es else fs) (λ V rs. if b then p V rs else q V rs)
fits_if R id true es fs p q hp hq = hp
fits_if R id false es fs p q hp hq = hq

-- of a session of this name
abbrev Knows : State → TransactionId → Option SessionFields → Type 0
Knows R id o = (session_of R id ≡ o) × (is_there R.world id ≡ knows o)

-- nothing is handed on, and the session stays
fits_keeps : (R : State) (id : TransactionId) (o : Option SessionFields) (a : AnswerFields) → Knows R id o → Fits R id [] (λ V rs. Turning.keeps R a)
fits_keeps R id o a k = k.1 ∙ ap knows (sym k.0)

-- the session changes, and is known exactly where the entry is there
fits_put : (R : State) (id : TransactionId) (s : SessionFields) (es : List Event) (new : World → List Reply → SessionFields) (a : World → List Reply →
    AnswerFields) → session_of R id ≡ Some s →
    ((V : World) (rs : List Reply) → session_id (new V rs) ≡ id) → is_there (run R.world es) id ≡ is_known
    (new (run R.world es) (replies R.world es)).stage →
    Fits R id es (λ V rs. Turning.replaces_one R (new V rs) (a V rs))
fits_put R id s es new a here name is =
    let V = run R.world es in
    let rs = replies R.world es in
    is ∙ ap knows (sym (replaced_self R.sessions (new V rs) id (s, here) (name V rs)))

fits_close : (R : State) (id : TransactionId) (s : SessionFields) (es : List Event) (a : World → List Reply → AnswerFields) → AreDistinct R.sessions →
    session_id s
    ≡ id → is_there (run R.world es) id ≡ false →
    Fits R id es (λ V rs. Turning.closes R s (a V rs))
fits_close R id s es a d name is = is ∙ ap knows (sym (ap (λ (n : TransactionId). found (without_session R.sessions n) id) name ∙ gone R.sessions id d))

-- an event of a session that is known leaves its entry there
known_stays : Laws → (R : State) (s : SessionFields) (stage : Stage) (v : Event) → Sound R.world → s.stage ≡ stage → is_take v ≡ false → about v ≡ session_id s
    →
    is_there R.world (session_id s) ≡ is_known s.stage →
    is_there (run R.world (Handing.where_known stage (v ∷ []))) (session_id s) ≡ is_known s.stage
known_stays laws R s Known v sound is kept of before =
    let known : is_known s.stage ≡ true = ap is_known is in
    subst (λ (n : TransactionId). is_there (next R.world v).0 n ≡ true) of
    (stays_there laws R.world v sound kept (ap (is_there R.world) of ∙ before ∙ known)) ∙ sym known
known_stays laws R s (Held eof) v sound is kept of before = before
known_stays laws R s (OverStage ending) v sound is kept of before = before
known_stays laws R s Waiting v sound is kept of before = before

none_stays : (R : State) (s : SessionFields) (stage : Stage) → is_there R.world (session_id s) ≡ is_known s.stage →
    is_there (run R.world (Handing.where_known stage [])) (session_id s) ≡ is_known s.stage
none_stays R s (Held eof) before = before
none_stays R s Known before = before
none_stays R s (OverStage ending) before = before
none_stays R s Waiting before = before

pub heard_stage : (R : State) (V : World) (s : SessionFields) → (Turning.heard_session R V s).stage ≡ s.stage
heard_stage R V s = cond_both (Turning.is_news R.world V s) (record s { timer = restarted R.now }) s (λ (t : SessionFields). t.stage ≡ s.stage) (λ e. refl)
    (λ e. refl)

-- a stage that is known where there is an entry
stage_in_is : (o : Option Entry) (sent : Bool) (fault : ℕ) → is_some o ≡ is_known (Turning.stage_in o sent fault)
stage_in_is None sent fault = refl
stage_in_is (Some e) sent fault = refl

added_by : (x : SessionFields) (xs : List SessionFields) (new : SessionFields) (id : TransactionId) (same : Bool) → is_same (session_id x) id ≡ same →
    (if is_same (session_id x) id then Some x else found xs id) ≡ None → (found xs id ≡ None → found (xs ++ new ∷ []) id ≡ Some new) →
    (if is_same (session_id x) id then Some x else found (xs ++ new ∷ []) id) ≡ Some new
added_by x xs new id true is none later = absurd (none-some x (sym none ∙ cond-true (is_same (session_id x) id) (Some x) (found xs id) is))
added_by x xs new id false is none later =
    cond-false (is_same (session_id x) id) (Some x) (found (xs ++ new ∷ []) id) is
    ∙ later (sym (cond-false (is_same (session_id x) id) (Some x) (found xs id) is) ∙ none)

pub added_found : (ss : List SessionFields) (new : SessionFields) (id : TransactionId) → session_id new ≡ id → found ss id ≡ None → found (ss ++ new ∷ []) id
    ≡ Some new
added_found [] new id name none = cond-true (is_same (session_id new) id) (Some new) None (ap (λ (n : TransactionId). is_same n id) name ∙ same_itself id)
added_found (x ∷ xs) new id name none = added_by x xs new id (is_same (session_id x) id) refl none (added_found xs new id name)

fits_add : (R : State) (id : TransactionId) (es : List Event) (new : World → List Reply → SessionFields) (a : World → List Reply → AnswerFields) →
    session_of R id ≡ None →
    ((V : World) (rs : List Reply) → session_id (new V rs) ≡ id) → is_there (run R.world es) id ≡ is_known
    (new (run R.world es) (replies R.world es)).stage →
    Fits R id es (λ V rs. Turning.adds R (new V rs) (a V rs))
fits_add R id es new a none name is =
    let V = run R.world es in
    let rs = replies R.world es in
    is ∙ ap knows (sym (added_found R.sessions (new V rs) id (name V rs) none))

-- ---- PDUs

fits_ours : (R : State) (h : Header) (o : Option SessionFields) (es : List Event) (p : World → List Reply → Turning.Parts) → Knows R (id_of h) o →
    Fits R (id_of h) es p →
    Fits R (id_of h) (if Handing.is_ours R h then es else []) (λ V rs. Turning.where_ours R h (p V rs))
fits_ours R h o es p k f =
    fits_if R (id_of h) (Handing.is_ours R h) es [] p (λ V rs. Turning.keeps R (Turning.quiet (Turning.foreign h))) f
    (fits_keeps R (id_of h) o (Turning.quiet (Turning.foreign h)) k)

fits_metadata_stage : Laws → (R : State) (h : Header) (m : MetadataFields) (s : SessionFields) (stage : Stage) → Sound R.world → Knows R (id_of h) (Some s) →
    s.stage ≡ stage →
    Fits R (id_of h) (Handing.metadata_in_stage h m s stage) (λ V rs. Turning.metadata_stage R V rs h m s stage)
fits_metadata_stage laws R h m s (Held eof) sound k is =
    fits_if R (id_of h) h.acknowledged (MetadataCame h m ∷ EofCame s.header eof ∷ []) [] (λ V rs. Turning.joins R V rs h m)
    (λ V rs. Turning.keeps R (Turning.said_word s words.Idle))
    (fits_put R (id_of h) s (MetadataCame h m ∷ EofCame s.header eof ∷ [])
    (λ V rs. Turning.begun_session R h (Turning.stage_in (entry_of V (id_of h)) true h.destination)) (λ V rs. (Turning.joins R V rs h m).answer) k.0
    (λ V rs. refl)
    (stage_in_is (entry_of (run R.world (MetadataCame h m ∷ EofCame s.header eof ∷ [])) (id_of h)) true h.destination))
    (fits_keeps R (id_of h) (Some s) (Turning.said_word s words.Idle) k)
fits_metadata_stage laws R h m s Known sound k is =
    let name = found_name R.sessions (id_of h) s k.0 in
    let known : is_known s.stage ≡ true = ap is_known is in
    let before : is_there R.world (id_of h) ≡ true = k.1 ∙ known in
    fits_put R (id_of h) s (MetadataCame h m ∷ []) (λ V rs. Turning.heard_session R V s) (λ V rs. Turning.quiet (Turning.became_reply (id_of h) rs)) k.0
    (λ V rs. heard_name R V s ∙ name)
    (stays_there laws R.world (MetadataCame h m) sound refl before ∙ sym known ∙ ap is_known
    (sym (heard_stage R (run R.world (MetadataCame h m ∷ [])) s)))
fits_metadata_stage laws R h m s (OverStage ending) sound k is = fits_keeps R (id_of h) (Some s) (Turning.said_word s words.Duplicate) k
fits_metadata_stage laws R h m s Waiting sound k is = fits_keeps R (id_of h) (Some s) (Turning.said_word s words.Duplicate) k

fits_metadata : Laws → (R : State) (h : Header) (m : MetadataFields) (o : Option SessionFields) → Sound R.world → Knows R (id_of h) o →
    Fits R (id_of h) (Handing.metadata_events R h m o) (λ V rs. Turning.metadata_parts R V rs h m o)
fits_metadata laws R h m None sound k =
    let away = Turning.said_of_header h (Turning.turned_away R h) in
    fits_if R (id_of h) (is_closed R (id_of h) || lacks_room R (id_of h)) [] (MetadataCame h m ∷ []) (λ V rs. Turning.keeps R away)
    (λ V rs. Turning.begins R V rs h m)
    (fits_keeps R (id_of h) None away k)
    (fits_add R (id_of h) (MetadataCame h m ∷ []) (λ V rs. Turning.begun_session R h
    (Turning.stage_in (entry_of V (id_of h)) (h.acknowledged || m.closure) h.destination)) (λ V rs. (Turning.begins R V rs h m).answer) k.0 (λ V rs. refl)
    (stage_in_is (entry_of (run R.world (MetadataCame h m ∷ [])) (id_of h)) (h.acknowledged || m.closure) h.destination))
fits_metadata laws R h m (Some s) sound k = fits_metadata_stage laws R h m s s.stage sound k refl

-- an event that a known session hears
fits_heard : Laws → (R : State) (id : TransactionId) (s : SessionFields) (v : Event) (a : World → List Reply → AnswerFields) → Sound R.world →
    Knows R id (Some s) → s.stage ≡ Known → is_take v ≡ false → about v ≡ id →
    Fits R id (v ∷ []) (λ V rs. Turning.replaces_one R (Turning.heard_session R V s) (a V rs))
fits_heard laws R id s v a sound k is kept of =
    let name = found_name R.sessions id s k.0 in
    let known : is_known s.stage ≡ true = ap is_known is in
    let now : is_there (next R.world v).0 id ≡ true =
    subst (λ (n : TransactionId). is_there (next R.world v).0 n ≡ true) of (stays_there laws R.world v sound kept (ap (is_there R.world) of ∙ k.1 ∙ known)) in
    fits_put R id s (v ∷ []) (λ V rs. Turning.heard_session R V s) a k.0 (λ V rs. heard_name R V s ∙ name)
    (now ∙ sym known ∙ ap is_known (sym (heard_stage R (run R.world (v ∷ [])) s)))

fits_data_stage : Laws → (R : State) (h : Header) (piece : FileDataFields) (s : SessionFields) (stage : Stage) → Sound R.world → Knows R (id_of h) (Some s) →
    s.stage ≡ stage →
    Fits R (id_of h) (Handing.where_known stage (DataCame h piece ∷ [])) (λ V rs. if is_known stage then Turning.takes_piece R V rs h piece s
    else Turning.keeps R (Turning.said_word s words.Idle))
fits_data_stage laws R h piece s (Held eof) sound k is = fits_keeps R (id_of h) (Some s) (Turning.said_word s words.Idle) k
fits_data_stage laws R h piece s Known sound k is = fits_heard laws R (id_of h) s (DataCame h piece)
    (λ V rs. (Turning.takes_piece R V rs h piece s).answer) sound k is refl refl
fits_data_stage laws R h piece s (OverStage ending) sound k is = fits_keeps R (id_of h) (Some s) (Turning.said_word s words.Idle) k
fits_data_stage laws R h piece s Waiting sound k is = fits_keeps R (id_of h) (Some s) (Turning.said_word s words.Idle) k

fits_data : Laws → (R : State) (h : Header) (piece : FileDataFields) (o : Option SessionFields) → Sound R.world → Knows R (id_of h) o →
    Fits R (id_of h) (Handing.of_session o (DataCame h piece ∷ [])) (λ V rs. Turning.data_parts R V rs h piece o)
fits_data laws R h piece None sound k = fits_keeps R (id_of h) None silent k
fits_data laws R h piece (Some s) sound k = fits_data_stage laws R h piece s s.stage sound k refl

fits_over : (R : State) (id : TransactionId) (s new : SessionFields) (a : AnswerFields) → Knows R id (Some s) → session_id new ≡ id → is_known s.stage
    ≡ is_known new.stage → Fits R id [] (λ V rs. Turning.replaces_one R new a)
fits_over R id s new a k name same = fits_put R id s [] (λ V rs. new) (λ V rs. a) k.0 (λ V rs. name) (k.1 ∙ same)

fits_eof_stage : Laws → (R : State) (h : Header) (eof : Eof) (s : SessionFields) (stage : Stage) → Sound R.world → Knows R (id_of h) (Some s) → s.stage
    ≡ stage →
    Fits R (id_of h) (Handing.where_known stage (Handing.eof_events R h eof)) (λ V rs. Turning.eof_stage R V rs h eof s stage)
fits_eof_stage laws R h eof s (Held kept) sound k is =
    either_way (λ (parts : Turning.Parts). Fits R (id_of h) [] (λ V rs. parts)) (eof.condition == 0)
    (Turning.keeps R (Turning.acks_only h eof Active words.Duplicate))
    (Turning.replaces_one R (Turning.ended_by h eof s) (Turning.acks_only h eof Active words.Faulted))
    (fits_keeps R (id_of h) (Some s) silent k)
    (fits_over R (id_of h) s (Turning.ended_by h eof s) silent k (found_name R.sessions (id_of h) s k.0) (ap is_known is))
fits_eof_stage laws R h eof s Known sound k is =
    let begun = Turning.acks_only h eof Active words.ListBegun in
    fits_if R (id_of h) (not (eof.condition == 0) && Handing.is_list_begun R (id_of h)) [] (EofCame h eof ∷ []) (λ V rs. Turning.keeps R begun)
    (λ V rs. Turning.takes_eof R V rs h eof s) (fits_keeps R (id_of h) (Some s) begun k)
    (fits_heard laws R (id_of h) s (EofCame h eof) (λ V rs. (Turning.takes_eof R V rs h eof s).answer) sound k is refl refl)
fits_eof_stage laws R h eof s (OverStage ending) sound k is = fits_keeps R (id_of h) (Some s) silent k
fits_eof_stage laws R h eof s Waiting sound k is = fits_keeps R (id_of h) (Some s) silent k

fits_eof : Laws → (R : State) (h : Header) (eof : Eof) (o : Option SessionFields) → Sound R.world → Knows R (id_of h) o →
    Fits R (id_of h) (Handing.of_session o (Handing.eof_events R h eof)) (λ V rs. Turning.eof_parts R V rs h eof o)
fits_eof laws R h eof None sound k =
    let kept = Turning.keeps R (Turning.acks_only h eof (status_of R (id_of h)) (Turning.word_without_session R (id_of h))) in
    let full = Turning.keeps R (Turning.said_of_header h (Turning.no_room_word R)) in
    let holds = Turning.held_first R h eof in
    either_way (λ (parts : Turning.Parts). Fits R (id_of h) [] (λ V rs. parts)) (is_closed R (id_of h) || not (eof.condition == 0) || not h.acknowledged)
    kept (if lacks_room R (id_of h) then full else holds)
    (fits_keeps R (id_of h) None silent k)
    (either_way (λ (parts : Turning.Parts). Fits R (id_of h) [] (λ V rs. parts)) (lacks_room R (id_of h)) full holds (fits_keeps R (id_of h) None silent k)
    (fits_add R (id_of h) [] (λ V rs. Turning.begun_session R h (Held eof)) (λ V rs. holds.answer) k.0 (λ V rs. refl) k.1))
fits_eof laws R h eof (Some s) sound k = fits_eof_stage laws R h eof s s.stage sound k refl

fits_ack_stage : (R : State) (h : Header) (ack : Ack) (s : SessionFields) (stage : Stage) → AreDistinct R.sessions → Knows R (id_of h) (Some s) → s.stage
    ≡ stage → Fits R (id_of h) [] (λ V rs. Turning.ack_stage R h ack s stage)
fits_ack_stage R h ack s (Held eof) d k is = fits_keeps R (id_of h) (Some s) silent k
fits_ack_stage R h ack s Known d k is = fits_keeps R (id_of h) (Some s) silent k
fits_ack_stage R h ack s (OverStage ending) d k is = fits_keeps R (id_of h) (Some s) silent k
fits_ack_stage R h ack s Waiting d k is =
    either_way (λ (parts : Turning.Parts). Fits R (id_of h) [] (λ V rs. parts)) (ack.directive == 5)
    (Turning.closes R s (Turning.said_of_header h words.Acknowledged))
    (Turning.keeps R (Turning.said_of_header h words.Idle))
    (fits_close R (id_of h) s [] (λ V rs. Turning.said_of_header h words.Acknowledged) d (found_name R.sessions (id_of h) s k.0) (k.1 ∙ ap is_known is))
    (fits_keeps R (id_of h) (Some s) silent k)

fits_ack : (R : State) (h : Header) (ack : Ack) (o : Option SessionFields) → AreDistinct R.sessions → Knows R (id_of h) o →
    Fits R (id_of h) [] (λ V rs. Turning.ack_parts R h ack o)
fits_ack R h ack None d k = fits_keeps R (id_of h) None silent k
fits_ack R h ack (Some s) d k = fits_ack_stage R h ack s s.stage d k refl

roused_is : (R : State) (s : SessionFields) → (session_id (Turning.roused R s) ≡ session_id s) ×
    (is_known s.stage ≡ is_known (Turning.roused R s).stage)
roused_is R s =
    cond_both (Dues.is_receiving_at (at_of R.world s)) (record s { timer = restarted R.now }) s (λ (t : SessionFields). (session_id t ≡ session_id s)
    × (is_known s.stage ≡ is_known t.stage)) (λ e. (refl, refl)) (λ e. (refl, refl))

fits_prompt : (R : State) (h : Header) (prompt : Prompt) (o : Option SessionFields) → Knows R (id_of h) o →
    Fits R (id_of h) [] (λ V rs. Turning.prompt_parts R h prompt o)
fits_prompt R h prompt None k = fits_keeps R (id_of h) None silent k
fits_prompt R h prompt (Some s) k =
    either_way (λ (parts : Turning.Parts). Fits R (id_of h) [] (λ V rs. parts)) (s.header.acknowledged && Turning.takes_prompts (at_of R.world s))
    (Turning.replaces_one R (Turning.roused R s) (Turning.prompted R h s prompt)) (Turning.keeps R (Turning.said_of_header h words.Idle))
    (fits_over R (id_of h) s (Turning.roused R s) (Turning.prompted R h s prompt) k ((roused_is R s).0 ∙ found_name R.sessions (id_of h) s k.0)
    (roused_is R s).1)
    (fits_keeps R (id_of h) (Some s) silent k)

fits_cancel_stage : Laws → (R : State) (id : TransactionId) (s : SessionFields) (stage : Stage) → Sound R.world → AreDistinct R.sessions →
    Knows R id (Some s) → s.stage ≡ stage →
    Fits R id (Handing.where_known stage (Handing.cancel_events R id)) (λ V rs. Turning.cancel_stage R rs s stage)
fits_cancel_stage laws R id s (Held eof) sound d k is = fits_over R id s (Turning.over_here R s 15) silent k (found_name R.sessions id s k.0)
    (ap is_known is)
fits_cancel_stage laws R id s Known sound d k is =
    let known : is_known s.stage ≡ true = ap is_known is in
    let begun = Turning.keeps R (Turning.said_word s words.ListBegun) in
    let replied = λ (rs : List Reply). Turning.keeps R (Turning.quiet (Turning.became_reply (session_id s) rs)) in
    subst (λ (n : TransactionId). Fits R id (Handing.cancel_events R id) (λ V rs. if Handing.is_list_begun R n then begun else replied rs))
    (sym (found_name R.sessions id s k.0))
    (fits_if R id (Handing.is_list_begun R id) [] (Cancel id ∷ []) (λ V rs. begun) (λ V rs. replied rs)
    (fits_keeps R id (Some s) (Turning.said_word s words.ListBegun) k)
    (stays_there laws R.world (Cancel id) sound refl (k.1 ∙ known) ∙ sym known ∙ ap knows (sym k.0)))
fits_cancel_stage laws R id s (OverStage ending) sound d k is = fits_keeps R id (Some s) silent k
fits_cancel_stage laws R id s Waiting sound d k is =
    fits_close R id s [] (λ V rs. Turning.said_word s words.Closed) d (found_name R.sessions id s k.0) (k.1 ∙ ap is_known is)

fits_cancel : Laws → (R : State) (id : TransactionId) (o : Option SessionFields) → Sound R.world → AreDistinct R.sessions → Knows R id o →
    Fits R id (Handing.of_session o (Handing.cancel_events R id)) (λ V rs. Turning.cancel_parts R rs id o)
fits_cancel laws R id None sound d k = fits_keeps R id None silent k
fits_cancel laws R id (Some s) sound d k = fits_cancel_stage laws R id s s.stage sound d k refl

-- ---- timers

check_stays : Laws → (R : State) (s : SessionFields) (b : Bool) → Sound R.world → is_there R.world (session_id s) ≡ is_known s.stage →
    is_there (run R.world (Handing.where_known s.stage (if b then Check (session_id s) ∷ [] else []))) (session_id s) ≡ is_known s.stage
check_stays laws R s true sound before = known_stays laws R s s.stage (Check (session_id s)) sound refl refl refl before
check_stays laws R s false sound before = none_stays R s s.stage before

limit_stays : Laws → (R : State) (s : SessionFields) (checks : Bool) (how : Handler) → Sound R.world → is_there R.world (session_id s)
    ≡ is_known s.stage →
    is_there (run R.world (Handing.where_known s.stage (Handing.limit_events (session_id s) checks how))) (session_id s) ≡ is_known s.stage
limit_stays laws R s checks handlers.Ignore sound before = none_stays R s s.stage before
limit_stays laws R s true handlers.Cancel sound before = known_stays laws R s s.stage (Check (session_id s)) sound refl refl refl before
limit_stays laws R s false handlers.Cancel sound before = known_stays laws R s s.stage (Cancel (session_id s)) sound refl refl refl before
limit_stays laws R s true handlers.Abandon sound before = known_stays laws R s s.stage (Cancel (session_id s)) sound refl refl refl before
limit_stays laws R s false handlers.Abandon sound before = known_stays laws R s s.stage (Cancel (session_id s)) sound refl refl refl before

-- by how far it is: a session that is held or waits is not known
at_held : (stage : Stage) (o : Option Entry) → at_stage stage o ≡ At_held → is_known stage ≡ false
at_held (Held eof) o e = refl
at_held Known None e = absurd cc
at_held Known (Some entry) e = absurd (not_held entry.phase e)
at_held (OverStage ending) o e = refl
at_held Waiting o e = refl

at_waits : (stage : Stage) (o : Option Entry) → at_stage stage o ≡ At_waiting → is_known stage ≡ false
at_waits (Held eof) o e = refl
at_waits Known None e = absurd cc
at_waits Known (Some entry) e = absurd (waits_phase entry.phase e)
at_waits (OverStage ending) o e = refl
at_waits Waiting o e = refl

-- what becomes of a session at a limit, where its entry stayed
gives_by : (R : State) (s : SessionFields) (condition : ℕ) (how : Handler) (at : JointPhase) (es : List Event) → AreDistinct R.sessions → Knows R (session_id s)
    (Some s) →
    at_of R.world s ≡ at →
    is_there (run R.world es) (session_id s) ≡ is_known s.stage → Fits R (session_id s) es (λ V rs. Turning.gives_up R s condition how at)
gives_by R s condition handlers.Ignore at es d k is now = fits_put R (session_id s) s es (λ V rs. record s { timer = restarted R.now }) (λ V rs. silent) k.0
    (λ V rs. refl) now
gives_by R s condition handlers.Cancel At_waiting es d k is now = fits_close R (session_id s) s es (λ V rs. silent) d refl (now
    ∙ at_waits s.stage (entry_of R.world (session_id s)) is)
gives_by R s condition handlers.Cancel At_held es d k is now =
    fits_put R (session_id s) s es (λ V rs. Turning.over_here R s condition) (λ V rs. silent) k.0 (λ V rs. refl) (now
    ∙ at_held s.stage (entry_of R.world (session_id s)) is)
gives_by R s condition handlers.Cancel At_receiving es d k is now = fits_put R (session_id s) s es (λ V rs. record s { cause = Some condition })
    (λ V rs. silent) k.0 (λ V rs. refl) now
gives_by R s condition handlers.Cancel (At_awaiting made) es d k is now =
    fits_put R (session_id s) s es (λ V rs. record s { cause = Some condition }) (λ V rs. silent) k.0 (λ V rs. refl) now
gives_by R s condition handlers.Cancel At_executing es d k is now = fits_put R (session_id s) s es (λ V rs. record s { cause = Some condition })
    (λ V rs. silent) k.0 (λ V rs. refl) now
gives_by R s condition handlers.Cancel At_over es d k is now = fits_put R (session_id s) s es (λ V rs. record s { cause = Some condition }) (λ V rs. silent) k.0
    (λ V rs. refl) now
gives_by R s condition handlers.Abandon At_waiting es d k is now = fits_close R (session_id s) s es (λ V rs. silent) d refl (now
    ∙ at_waits s.stage (entry_of R.world (session_id s)) is)
gives_by R s condition handlers.Abandon At_held es d k is now = fits_close R (session_id s) s es (λ V rs. silent) d refl (now
    ∙ at_held s.stage (entry_of R.world (session_id s)) is)
gives_by R s condition handlers.Abandon At_receiving es d k is now = fits_put R (session_id s) s es (λ V rs. record s { is_abandoned = true })
    (λ V rs. silent) k.0
    (λ V rs. refl) now
gives_by R s condition handlers.Abandon (At_awaiting made) es d k is now =
    fits_put R (session_id s) s es (λ V rs. record s { is_abandoned = true }) (λ V rs. silent) k.0 (λ V rs. refl) now
gives_by R s condition handlers.Abandon At_executing es d k is now = fits_put R (session_id s) s es (λ V rs. record s { is_abandoned = true })
    (λ V rs. silent) k.0
    (λ V rs. refl) now
gives_by R s condition handlers.Abandon At_over es d k is now = fits_put R (session_id s) s es (λ V rs. record s { is_abandoned = true }) (λ V rs. silent) k.0
    (λ V rs. refl) now

fits_gives_up : Laws → (R : State) (s : SessionFields) (condition : ℕ) (checks : Bool) (how : Handler) (at : JointPhase) → Sound R.world →
    AreDistinct R.sessions →
    Knows R (session_id s) (Some s) → at_of R.world s ≡ at →
    Fits R (session_id s) (Handing.where_known s.stage (Handing.limit_events (session_id s) checks how)) (λ V rs. Turning.gives_up R s condition how at)
fits_gives_up laws R s condition checks how at sound d k is =
    let es = Handing.where_known s.stage (Handing.limit_events (session_id s) checks how) in
    gives_by R s condition how at es d k is (limit_stays laws R s checks how sound k.1)

fits_due : Laws → (R : State) (due : Dues.Due) → Sound R.world → AreDistinct R.sessions → Dues.first_due R R.sessions ≡ due →
    Knows R (due_name due) (session_of R (due_name due)) →
    Fits R (due_name due) (Handing.due_events R due) (λ V rs. Turning.due_parts R V due)
fits_due laws R Dues.Nothing_due sound d is k = fits_keeps R nobody (session_of R nobody) silent k
fits_due laws R (Dues.Alive_due s) sound d is k =
    let here = member_found R.sessions s d (alive_due R R.sessions s is).0 in
    fits_over R (session_id s) s (record s { alive_at = R.now }) silent (here, k.1 ∙ ap knows here) refl refl
fits_due laws R (Dues.Stage_due s false) sound d is k =
    let here = member_found R.sessions s d (stage_due R R.sessions s false is).0 in
    fits_put R (session_id s) s (Handing.due_events R (Dues.Stage_due s false)) (λ V rs. record s { timer = passed R.now s.timer Again }) (λ V rs. silent) here
    (λ V rs. refl)
    (check_stays laws R s (Handing.makes_checks s.header.acknowledged (at_of R.world s)) sound (k.1 ∙ ap knows here))
fits_due laws R (Dues.Stage_due s true) sound d is k =
    let here = member_found R.sessions s d (stage_due R R.sessions s true is).0 in
    fits_gives_up laws R s (Dues.fault_at s.header.acknowledged (at_of R.world s)) (Handing.makes_checks s.header.acknowledged (at_of R.world s))
    (Dues.handler_at R.mib s.header.acknowledged (at_of R.world s)) (at_of R.world s)
    sound d (here, k.1 ∙ ap knows here) refl

-- ---- outcomes

-- what is over has no entry once it was taken
pub phase_over : (phase : Phase) → Dues.is_over (at_phase phase) ≡ true → is_live phase ≡ false
phase_over Receiving e = absurd cc
phase_over (Awaiting made) e = absurd cc
phase_over (Executing n) e = absurd cc
phase_over Refused e = refl
phase_over Done e = refl
phase_over (Ended condition) e = refl

taken_there : Laws → (R : State) (s : SessionFields) (o : Option Entry) → Sound R.world → entry_of R.world (session_id s) ≡ o → Dues.is_over (at_entry o) ≡ true
    →
    is_there (next R.world (Take (session_id s))).0 (session_id s) ≡ false
taken_there laws R s None sound here over = ap (λ (x : Option Entry). is_there (taken_out R.world (index_of R.world (session_id s)) x).0 (session_id s)) here
    ∙ ap is_some here
taken_there laws R s (Some e) sound here over = ap is_some (laws.takes R.world (session_id s) e sound here (phase_over e.phase over))

finish_there : Laws → (R : State) (s : SessionFields) (stage : Stage) → Sound R.world → s.stage ≡ stage → is_there R.world (session_id s)
    ≡ is_known s.stage →
    Dues.is_over (at_of R.world s) ≡ true →
    is_there (run R.world (Handing.where_known stage (Take (session_id s) ∷ []))) (session_id s) ≡ false
finish_there laws R s (Held eof) sound is before over = before ∙ ap is_known is
finish_there laws R s Known sound is before over =
    taken_there laws R s (entry_of R.world (session_id s)) sound refl (ap (λ (stage : Stage). Dues.is_over (at_stage stage (entry_of R.world (session_id s))))
    (sym is) ∙ over)
finish_there laws R s (OverStage ending) sound is before over = before ∙ ap is_known is
finish_there laws R s Waiting sound is before over = before ∙ ap is_known is

fits_session : (R : State) (s : SessionFields) (o : Outcome) (es : List Event) → AreDistinct R.sessions → session_of R (session_id s) ≡ Some s →
    is_there (run R.world es) (session_id s) ≡ false →
    Fits R (session_id s) es (λ V rs. Turning.finish_session R s o)
fits_session R s o es d here gone_now =
    let closed : (a : AnswerFields) → Fits R (session_id s) es (λ V rs. Turning.closes R (Turning.settled s o) a) =
    λ a. fits_close R (session_id s) (Turning.settled s o) es (λ V rs. a) d refl gone_now in
    let waits : Fits R (session_id s) es (λ V rs. Turning.replaces_one R (Turning.waits_for_ack R s o) (Turning.sends_it s o words.Finished)) =
    fits_put R (session_id s) s es (λ V rs. Turning.waits_for_ack R s o) (λ V rs. Turning.sends_it s o words.Finished) here (λ V rs. refl) gone_now in
    let third = if not s.header.acknowledged then Turning.closes R (Turning.settled s o) (Turning.sends_it s o words.Closed)
    else Turning.replaces_one R (Turning.waits_for_ack R s o) (Turning.sends_it s o words.Finished) in
    let second = if not o.send then Turning.closes R (Turning.settled s o) (Turning.concluded s o words.Closed) else third in
    either_way (λ (parts : Turning.Parts). Fits R (session_id s) es (λ V rs. parts)) s.is_abandoned
    (Turning.closes R (Turning.settled s o) (Turning.said_word s words.Closed)) second
    (closed (Turning.said_word s words.Closed)) (
    either_way (λ (parts : Turning.Parts). Fits R (session_id s) es (λ V rs. parts)) (not o.send)
    (Turning.closes R (Turning.settled s o) (Turning.concluded s o words.Closed)) third
    (closed (Turning.concluded s o words.Closed)) (
    either_way (λ (parts : Turning.Parts). Fits R (session_id s) es (λ V rs. parts)) (not s.header.acknowledged)
    (Turning.closes R (Turning.settled s o) (Turning.sends_it s o words.Closed))
    (Turning.replaces_one R (Turning.waits_for_ack R s o) (Turning.sends_it s o words.Finished))
    (closed (Turning.sends_it s o words.Closed)) waits
    )
    )

fits_finish : Laws → (R : State) (o : Option SessionFields) → Sound R.world → AreDistinct R.sessions → Dues.first_over R.world R.sessions ≡ o →
    Knows R (session_name o) (session_of R (session_name o)) →
    Fits R (session_name o) (Handing.take_of o) (λ V rs. Turning.finish_parts R o)
fits_finish laws R None sound d is k = fits_keeps R nobody (session_of R nobody) silent k
fits_finish laws R (Some s) sound d is k =
    let over = first_over_is R.world R.sessions s is in
    let here = member_found R.sessions s d over.0 in
    fits_session R s (Turning.outcome_for s (entry_of R.world (session_id s))) (Handing.take_of (Some s)) d here
    (finish_there laws R s s.stage sound refl (k.1 ∙ ap knows here) over.1)

-- ---- each input, of the transaction that it is about

fits_ours_none : (R : State) (h : Header) (p : Turning.Parts) → AreKnown R → Fits R (id_of h) [] (λ V rs. p) →
    Fits R (id_of h) [] (λ V rs. Turning.where_ours R h p)
fits_ours_none R h p known f =
    either_way (λ (parts : Turning.Parts). Fits R (id_of h) [] (λ V rs. parts)) (Handing.is_ours R h) p (Turning.keeps R (Turning.quiet (Turning.foreign h))) f
    (fits_keeps R (id_of h) (session_of R (id_of h)) silent (refl, known (id_of h)))

fits_touched : Laws → (R : State) (i : Input) → Sound R.world → AreDistinct R.sessions → AreKnown R → is_work i ≡ false →
    Fits R (touched_in R i) (Handing.events_of R i) (λ V rs. Turning.parts_of R V rs i)
fits_touched laws R (MetadataPdu now h m) sound d known w =
    let o = session_of R (id_of h) in
    fits_ours R h o (Handing.metadata_events R h m o) (λ V rs. Turning.metadata_parts R V rs h m o) (refl, known (id_of h))
    (fits_metadata laws R h m o sound (refl, known (id_of h)))
fits_touched laws R (DataPdu now h piece) sound d known w =
    let o = session_of R (id_of h) in
    fits_ours R h o (Handing.of_session o (DataCame h piece ∷ [])) (λ V rs. Turning.data_parts R V rs h piece o) (refl, known (id_of h))
    (fits_data laws R h piece o sound (refl, known (id_of h)))
fits_touched laws R (EofPdu now h eof) sound d known w =
    let o = session_of R (id_of h) in
    fits_ours R h o (Handing.of_session o (Handing.eof_events R h eof)) (λ V rs. Turning.eof_parts R V rs h eof o) (refl, known (id_of h))
    (fits_eof laws R h eof o sound (refl, known (id_of h)))
fits_touched laws R (AckPdu now h ack) sound d known w =
    fits_ours_none R h (Turning.ack_parts R h ack (session_of R (id_of h))) known (fits_ack R h ack (session_of R (id_of h)) d (refl, known (id_of h)))
fits_touched laws R (PromptPdu now h prompt) sound d known w =
    fits_ours_none R h (Turning.prompt_parts R h prompt (session_of R (id_of h))) known
    (fits_prompt R h prompt (session_of R (id_of h)) (refl, known (id_of h)))
fits_touched laws R (OtherPdu now h) sound d known w =
    fits_ours_none R h (Turning.keeps R (Turning.quiet became.NotOurs)) known
    (fits_keeps R (id_of h) (session_of R (id_of h)) (Turning.quiet became.NotOurs) (refl, known (id_of h)))
fits_touched laws R (Expire now) sound d known w =
    let due = Dues.first_due R R.sessions in
    fits_due laws R due sound d refl (refl, known (due_name due))
fits_touched laws R (Work now) sound d known w = absurd cc
fits_touched laws R (Finish now) sound d known w =
    let o = Dues.first_over R.world R.sessions in
    fits_finish laws R o sound d refl (refl, known (session_name o))
fits_touched laws R (CancelAsked now id) sound d known w = fits_cancel laws R id (session_of R id) sound d (refl, known id)
fits_touched laws R ForgetAsked sound d known w = known nobody
fits_touched laws R (ClockMoved now) sound d known w = known nobody
fits_touched laws R NotTaken sound d known w = known nobody

-- ---- the others

-- a step leaves each entry there, and makes none
step_own : Laws → (W : World) (id : TransactionId) (o : Option Entry) → Sound W → entry_of W id ≡ o → is_there (next W (Step id)).0 id ≡ is_there W id
step_own laws W id None sound here = ap (λ (x : Option Entry). is_there (stepped W (index_of W id) x).0 id) here
step_own laws W id (Some e) sound here = stays_there laws W (Step id) sound refl (ap is_some here) ∙ sym (ap is_some here)

step_same : Laws → NextIsPromised → (W : World) (n : Option TransactionId) (id : TransactionId) → Sound W → is_there (run W (Handing.step_of n)) id
    ≡ is_there W id
step_same laws promised W None id sound = refl
step_same laws promised W (Some n) id sound = elim (cases_Bool (is_same n id)) [
  | inl same ↦ subst (λ (x : TransactionId). is_there (next W (Step n)).0 x ≡ is_there W x) (same_is n id same) (step_own laws W n (entry_of W n) sound refl)
  | inr other ↦ ap is_some ((promised W (Step n) sound).others id (other_than n id other))
]

-- ---- all inputs

known_but_work : Laws → NextIsSound → NextIsPromised → (R : State) (i : Input) → Sound R.world → AreDistinct R.sessions → AreKnown R → is_work i ≡ false →
    AreKnown (Turning.after_input R i)
known_but_work laws next_sound promised R i sound d known w id =
    let L = Handing.later (now_of i) R in
    elim (cases_Bool (is_same (touched R i) id)) [
      | inl same ↦
          subst (λ (n : TransactionId). is_there (Turning.after_input R i).world n ≡ knows (session_of (Turning.after_input R i) n))
          (same_is (touched R i) id same)
          (fits_touched laws L i sound d known w)
      | inr other ↦
          let entry : entry_of (run R.world (Handing.handed R i)) id ≡ entry_of R.world id = others_keep_entries next_sound promised R i id sound w other in
          ap is_some entry ∙ known id ∙ ap knows (sym (others_stay R i id other))
    ]

pub known_after : Laws → NextIsSound → NextIsPromised → (R : State) (i : Input) → Sound R.world → AreDistinct R.sessions → AreKnown R →
    AreKnown (Turning.after_input R i)
known_after laws next_sound promised R (MetadataPdu now h m) sound d known = known_but_work laws next_sound promised R (MetadataPdu now h m) sound d known refl
known_after laws next_sound promised R (DataPdu now h piece) sound d known = known_but_work laws next_sound promised R (DataPdu now h piece) sound d known refl
known_after laws next_sound promised R (EofPdu now h eof) sound d known = known_but_work laws next_sound promised R (EofPdu now h eof) sound d known refl
known_after laws next_sound promised R (AckPdu now h ack) sound d known = known_but_work laws next_sound promised R (AckPdu now h ack) sound d known refl
known_after laws next_sound promised R (PromptPdu now h prompt) sound d known =
    known_but_work laws next_sound promised R (PromptPdu now h prompt) sound d known refl
known_after laws next_sound promised R (OtherPdu now h) sound d known = known_but_work laws next_sound promised R (OtherPdu now h) sound d known refl
known_after laws next_sound promised R (Expire now) sound d known = known_but_work laws next_sound promised R (Expire now) sound d known refl
known_after laws next_sound promised R (Work now) sound d known = λ id. step_same laws promised R.world (next_runnable R.world.table) id sound ∙ known id
known_after laws next_sound promised R (Finish now) sound d known = known_but_work laws next_sound promised R (Finish now) sound d known refl
known_after laws next_sound promised R (CancelAsked now id) sound d known = known_but_work laws next_sound promised R (CancelAsked now id) sound d known refl
known_after laws next_sound promised R ForgetAsked sound d known = known_but_work laws next_sound promised R ForgetAsked sound d known refl
known_after laws next_sound promised R (ClockMoved now) sound d known = known_but_work laws next_sound promised R (ClockMoved now) sound d known refl
known_after laws next_sound promised R NotTaken sound d known = known_but_work laws next_sound promised R NotTaken sound d known refl

pub known_all : Laws → NextIsSound → NextIsPromised → (R : State) (inputs : List Input) → Sound R.world → AreDistinct R.sessions → AreKnown R →
    AreKnown (Turning.after_all R inputs)
known_all laws next_sound promised R [] sound d known = known
known_all laws next_sound promised R (i ∷ is) sound d known =
    known_all laws next_sound promised (Turning.after_input R i) is (run_sound next_sound R.world (Handing.handed R i) sound) (distinct_after R i d)
    (known_after laws next_sound promised R i sound d known)

pub known_is_entry : OnlyTakeRemoves → TakeRemoves → NextIsSound → NextIsPromised → KnownIsEntry
known_is_entry only_take takes next_sound promised mib W inputs sound none =
    let laws : Laws = record { only_take = only_take; takes = takes } in
    known_all laws next_sound promised (begin mib W) inputs sound tt (λ id. ap (λ (t : List Entry). is_some (slice_get t (index_in id t))) none)
