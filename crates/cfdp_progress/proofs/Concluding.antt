-- A transaction that takes no file data any more: its items are performed, and its outcome is handed out.
use Rattle.std.specs.Prelude.{not, ◌==◌, if◌then◌else◌, is_some, slice_get, slice_set}
use Rattle.std.proofs.Common.{◌≡◌, ◌⊎◌, inl, inr, ℕ, zero, suc, Bool, true, false, not, ◌&&◌, ◌||◌, ◌==◌, if◌then◌else◌, List, [], ◌∷◌, drop, Option, Some, None, refl, sym, ap, subst, ◌∙◌}
use Rattle.std.proofs.lemmas.Bool.{cond_both, cond-true, cond-false, cases_Bool, and_parts, not-true, both_ways}
use Rattle.std.proofs.lemmas.Option.{same_Some}
use Rattle.cfdp_status.proofs.Choices.{either_way}
use Rattle.cfdp_status.specs.declared.transaction.TransactionId.{TransactionId}
use Rattle.cfdp_leases.specs.Leases.{is_same}
use Rattle.cfdp_actions.specs.Actions.{Item, succeeded}
use Rattle.cfdp_pdus.specs.Values.{MetadataFields, FileDataFields}
use Rattle.cfdp_pdus.specs.declared.eof.Eof.{Eof}
use Rattle.cfdp_pdus.specs.declared.header.Header.{Header}
use Rattle.cfdp_directives.specs.declared.ack.Ack.{Ack}
use Rattle.cfdp_directives.specs.declared.prompt.Prompt.{Prompt}
use Rattle.cfdp_retransmission.specs.declared.timer.Expiry.TheVariants.{NotDue, Again, Limit}
use Rattle.cfdp_retransmission.specs.declared.timer.Timer.{Timer}
use Rattle.cfdp_sessions.specs.Sessions.{SessionFields, session_id, found, replaced, AreDistinct}
use Rattle.cfdp_sessions.specs.declared.session.Stage.{Stage}
use Rattle.cfdp_sessions.specs.declared.session.Stage.TheVariants.{Held, Known, Over as OverStage, Waiting}
use Rattle.cfdp_sessions.proofs.Names.{found_name, replaced_self, member_found, IsMember}
use Rattle.cfdp_transactions.specs.Admission.{metadata_came}
use Rattle.cfdp_transactions.specs.Delivery.{data_at, data_came, eof_without_error, eof_came}
use Rattle.cfdp_transactions.specs.Ending.{ended, ends, cancelled}
use Rattle.cfdp_transactions.specs.Entry.{Entry, id_of, is_live, is_receiving, is_executing, takes_data}
use Rattle.cfdp_transactions.specs.Entry as Entries
use Rattle.cfdp_transactions.specs.Execution.{replied, phase_before, entry_after, entry_failed, step_at, step_in, stepped, act_now}
use Rattle.cfdp_transactions.specs.Headline.{NextIsSound, NextIsPromised}
use Rattle.cfdp_transactions.specs.Next.{next, run, replies}
use Rattle.cfdp_transactions.specs.Sound.{Sound}
use Rattle.cfdp_transactions.specs.World.{World, index_in, entry_of, index_of, next_runnable, change_at}
use Rattle.cfdp_transactions.specs.declared.event.Event.{Event}
use Rattle.cfdp_transactions.specs.declared.event.Event.TheVariants.{Metadata as MetadataCame, Data as DataCame, Eof as EofCame, Step, Cancel}
use Rattle.cfdp_transactions.specs.declared.phase.Phase.{Phase}
use Rattle.cfdp_transactions.specs.declared.phase.Phase.TheVariants.{Receiving, Awaiting, Executing, Refused, Done, Ended}
use Rattle.cfdp_transactions.specs.declared.reply.Reply.{Reply}
use Rattle.cfdp_transactions.proofs.Finding.{found_name as entry_name}
use Rattle.cfdp_transactions.proofs.Lookups.{set_own}
use Rattle.cfdp_transactions.proofs.Options.{chosen_some}
use Rattle.cfdp_receiver.specs.declared.indication.Became.TheVariants as became
use Rattle.cfdp_directives.specs.declared.ack.TransactionStatus.TheVariants.{Active}
use Rattle.cfdp_receiver.specs.declared.indication.Word.TheVariants as words
use Rattle.cfdp_receiver.specs.declared.joint_phase.JointPhase.{JointPhase}
use Rattle.cfdp_receiver.specs.declared.joint_phase.JointPhase.TheVariants.{Executing as At_executing, Over as At_over}
use Rattle.cfdp_receiver.specs.declared.mib.Mib.{Mib}
use Rattle.cfdp_receiver.specs.State.{State, Input, MetadataPdu, DataPdu, EofPdu, AckPdu, PromptPdu, OtherPdu, Expire, Work, Finish, CancelAsked, ForgetAsked, ClockMoved, NotTaken, session_of, at_of, at_stage, at_entry, at_phase}
use Rattle.cfdp_receiver.specs.Due as Dues
use Rattle.cfdp_receiver.specs.Handing as Handing
use Rattle.cfdp_receiver.specs.Turning as Turning
use Rattle.cfdp_receiver.specs.Laws.{due_name, session_name, touched, is_work}
use Rattle.cfdp_receiver.proofs.Distinct.{distinct_after}
use Rattle.cfdp_receiver.proofs.FinishedSentAtMost.{stage_due, alive_due, first_over_is, is_it}
use Rattle.cfdp_receiver.proofs.TurnShapes.{others_stay}
use Rattle.cfdp_progress.specs.Concluding.{has_nothing_left, WasConcluded, ConcludedWhenDone, IsSentAndWaits, FinishedIsSent, FinishedIsSentAlone}
use Rattle.cfdp_receiver.proofs.OthersStay.{other_than, others_keep_entries, run_sound}
use Rattle.cfdp_progress.proofs.Turns.{heard_is, roused_is, unless_both}
use Rattle.cfdp_leases.proofs.Admitted.{same_is}

-- ---- the entry, at events of its own

-- it takes no file data any more
record Past (W : World) (id : TransactionId) : Type 0 where
  entry : Entry
  here : entry_of W id ≡ Some entry
  past : takes_data entry.phase ≡ false

abbrev OwnPast : TransactionId → World × Reply → Type 0
OwnPast id a = Past a.0 id

put_past : (W V : World) (id : TransactionId) (e new : Entry) → entry_of W id ≡ Some e → Entries.name_of new ≡ Entries.name_of e →
    V.table ≡ slice_set W.table (index_of W id) new → takes_data new.phase ≡ false → Past V id
put_past W V id e new here name table past = record {
  entry = new;
  here = ap (λ (t : List Entry). slice_get t (index_in id t)) table ∙ set_own W.table id e new (name ∙ entry_name W.table id e here) here;
  past = past;
}

ends_past : (W : World) (id : TransactionId) (e other : Entry) (condition : ℕ) (reply : Reply) → entry_of W id ≡ Some e →
    Entries.name_of other ≡ Entries.name_of e →
    OwnPast id (ends W (index_of W id) other condition, reply)
ends_past W id e other condition reply here name =
    put_past W (ends W (index_of W id) other condition) id e (ended W.filestore other condition) here name refl refl

-- by the entry that is found
metadata_past : (W : World) (h : Header) (m : MetadataFields) (id : TransactionId) (o : Option Entry) → Past W id → is_some o ≡ true →
    OwnPast id (metadata_came W h m o)
metadata_past W h m id None p there = absurd cc
metadata_past W h m id (Some e) p there = p

data_past : (W : World) (id : TransactionId) (piece : FileDataFields) (e : Entry) → Past W id → takes_data e.phase ≡ false →
    OwnPast id (data_came W (index_of W id) piece (Some e))
data_past W id piece e p past = subst (OwnPast id) (sym (cond-false (takes_data e.phase) (data_at W (index_of W id) e piece) (W, Reply.Idle) past)) p

receives_not : (phase : Phase) → takes_data phase ≡ false → not (is_receiving phase) ≡ true
receives_not Receiving h = absurd cc
receives_not (Awaiting checks) h = absurd cc
receives_not (Executing n) h = refl
receives_not Refused h = refl
receives_not Done h = refl
receives_not (Ended condition) h = refl

eof_past : (W : World) (id : TransactionId) (eof : Eof) (e : Entry) → Past W id → entry_of W id ≡ Some e → takes_data e.phase ≡ false →
    OwnPast id (eof_came W (index_of W id) eof (Some e))
eof_past W id eof e p here past =
    let k = index_of W id in
    let last : World × Reply = if not (is_receiving e.phase) then (W, Reply.Duplicate) else eof_without_error W k e eof in
    let faulted : World × Reply = (ends W k (record e { ended_by_eof = true }) eof.condition, Reply.Faulted eof.condition) in
    cond_both (not (is_live e.phase)) (W, Reply.Idle) (if not (eof.condition == 0) then faulted else last) (OwnPast id) (λ q. p)
    (λ q. cond_both (not (eof.condition == 0)) faulted last (OwnPast id)
    (λ z. ends_past W id e (record e { ended_by_eof = true }) eof.condition (Reply.Faulted eof.condition) here refl)
    (λ z. subst (OwnPast id) (sym (cond-true (not (is_receiving e.phase)) (W, Reply.Duplicate) (eof_without_error W k e eof) (receives_not e.phase past))) p))

past_before : (n : ℕ) (items : List Item) → takes_data (phase_before n items) ≡ false
past_before n [] = refl
past_before n (item ∷ items) = refl

step_at_past : (W : World) (id : TransactionId) (e : Entry) (n : ℕ) (items : List Item) → Past W id → entry_of W id ≡ Some e →
    OwnPast id (step_at W (index_of W id) e n items)
step_at_past W id e n [] p here = p
step_at_past W id e n (item ∷ items) p here =
    let k = index_of W id in
    let o = act_now W e item in
    cond_both (succeeded o.answer) (change_at W k o.changes (entry_after e n item items o), replied o.answer)
    (ends W k (entry_failed e o) 4, replied o.answer) (OwnPast id)
    (λ q. put_past W (change_at W k o.changes (entry_after e n item items o)) id e (entry_after e n item items o) here refl refl (past_before (suc n) items))
    (λ q. ends_past W id e (entry_failed e o) 4 (replied o.answer) here refl)

step_past : (W : World) (id : TransactionId) (e : Entry) (phase : Phase) → Past W id → entry_of W id ≡ Some e →
    OwnPast id (step_in phase W (index_of W id) e)
step_past W id e (Executing n) p here = step_at_past W id e n (drop n e.items) p here
step_past W id e Receiving p here = p
step_past W id e (Awaiting checks) p here = p
step_past W id e Refused p here = p
step_past W id e Done p here = p
step_past W id e (Ended condition) p here = p

cancel_past : (W : World) (id : TransactionId) (e : Entry) → Past W id → entry_of W id ≡ Some e → OwnPast id (cancelled W (index_of W id) (Some e))
cancel_past W id e p here =
    cond_both (is_live e.phase) (ends W (index_of W id) e 15, Reply.Cancelled) (W, Reply.Idle) (OwnPast id)
    (λ q. ends_past W id e e 15 Reply.Cancelled here refl) (λ q. p)

ours_past : (W : World) (h : Header) (id : TransactionId) (answer : World × Reply) → Past W id → OwnPast id answer →
    OwnPast id (if h.destination == W.config.entity then answer else (W, Reply.NotForUs))
ours_past W h id answer p own = cond_both (h.destination == W.config.entity) answer (W, Reply.NotForUs) (OwnPast id) (λ q. own) (λ q. p)

metadata_next : (W : World) (h : Header) (m : MetadataFields) → Past W (id_of h) → Past (next W (MetadataCame h m)).0 (id_of h)
metadata_next W h m p =
    ours_past W h (id_of h) (metadata_came W h m (entry_of W (id_of h))) p (metadata_past W h m (id_of h) (entry_of W (id_of h)) p (ap is_some p.here))

data_next : (W : World) (h : Header) (piece : FileDataFields) → Past W (id_of h) → Past (next W (DataCame h piece)).0 (id_of h)
data_next W h piece p =
    let came : OwnPast (id_of h) (data_came W (index_of W (id_of h)) piece (entry_of W (id_of h))) =
    subst (λ (o : Option Entry). OwnPast (id_of h) (data_came W (index_of W (id_of h)) piece o)) (sym p.here) (data_past W (id_of h) piece p.entry p p.past) in
    ours_past W h (id_of h) (data_came W (index_of W (id_of h)) piece (entry_of W (id_of h))) p came

eof_next : (W : World) (h : Header) (eof : Eof) → Past W (id_of h) → Past (next W (EofCame h eof)).0 (id_of h)
eof_next W h eof p =
    let came : OwnPast (id_of h) (eof_came W (index_of W (id_of h)) eof (entry_of W (id_of h))) =
    subst (λ (o : Option Entry). OwnPast (id_of h) (eof_came W (index_of W (id_of h)) eof o)) (sym p.here)
    (eof_past W (id_of h) eof p.entry p p.here p.past) in
    ours_past W h (id_of h) (eof_came W (index_of W (id_of h)) eof (entry_of W (id_of h))) p came

step_next : (W : World) (id : TransactionId) → Past W id → Past (next W (Step id)).0 id
step_next W id p = subst (λ (o : Option Entry). OwnPast id (stepped W (index_of W id) o)) (sym p.here) (step_past W id p.entry p.entry.phase p p.here)

cancel_next : (W : World) (id : TransactionId) → Past W id → Past (next W (Cancel id)).0 id
cancel_next W id p = subst (λ (o : Option Entry). OwnPast id (cancelled W (index_of W id) o)) (sym p.here) (cancel_past W id p.entry p p.here)

-- ---- its session

-- known, and with its entry
record KnownStill (V : World) (ss : List SessionFields) (id : TransactionId) : Type 0 where
  session : SessionFields
  here : found ss id ≡ Some session
  known : session.stage ≡ Known
  past : Past V id

kept_still : (R : State) (V : World) (id : TransactionId) (s : SessionFields) → session_of R id ≡ Some s → s.stage ≡ Known → Past V id →
    KnownStill V R.sessions id
kept_still R V id s here known past = record { session = s; here = here; known = known; past = past }

put_still : (R : State) (V : World) (id : TransactionId) (s t : SessionFields) → session_of R id ≡ Some s → s.stage ≡ Known → t.header ≡ s.header →
    t.stage ≡ s.stage → Past V id → KnownStill V (replaced R.sessions t) id
put_still R V id s t here known header stage past =
    let name : session_id t ≡ id = ap id_of header ∙ found_name R.sessions id s here in
    record { session = t; here = replaced_self R.sessions t id (s, here) name; known = stage ∙ known; past = past }

heard_still : (R L : State) (U V : World) (id : TransactionId) (s : SessionFields) → session_of R id ≡ Some s → s.stage ≡ Known → Past V id →
    KnownStill V (replaced R.sessions (Turning.heard_session L U s)) id
heard_still R L U V id s here known past = let h = heard_is L U s in put_still R V id s (Turning.heard_session L U s) here known h.1 h.0 past

still_if : (W : World) (id : TransactionId) (b : Bool) (es : List Event) (p q : Turning.Parts) → KnownStill (run W es) p.sessions id →
    KnownStill W q.sessions id →
    KnownStill (run W (if b then es else [])) (if b then p else q).sessions id
still_if W id true es p q hp hq = hp
still_if W id false es p q hp hq = hq

-- ---- inputs of its own

abbrev After : State → Input → TransactionId → Type 0
After R i id = KnownStill (Turning.after_input R i).world (Turning.after_input R i).sessions id

metadata_stage : (R L : State) (U : World) (rs : List Reply) (h : Header) (m : MetadataFields) (s : SessionFields) (stage : Stage) →
    L.sessions ≡ R.sessions → session_of R (id_of h) ≡ Some s → s.stage ≡ Known → Past R.world (id_of h) →
    stage ≡ Known → KnownStill (run R.world (Handing.metadata_in_stage h m s stage)) (Turning.metadata_stage L U rs h m s stage).sessions (id_of h)
metadata_stage R L U rs h m s (Held eof) same here known p k = absurd cc
metadata_stage R L U rs h m s Known same here known p k =
    subst (λ (ss : List SessionFields). KnownStill (next R.world (MetadataCame h m)).0 (replaced ss (Turning.heard_session L U s)) (id_of h)) (sym same)
    (heard_still R L U (next R.world (MetadataCame h m)).0 (id_of h) s here known (metadata_next R.world h m p))
metadata_stage R L U rs h m s (OverStage ending) same here known p k = absurd cc
metadata_stage R L U rs h m s Waiting same here known p k = absurd cc

own_metadata : (R : State) (now : ℕ) (h : Header) (m : MetadataFields) (s : SessionFields) → session_of R (id_of h) ≡ Some s → s.stage ≡ Known →
    Past R.world (id_of h) → After R (MetadataPdu now h m) (id_of h)
own_metadata R now h m s here known p =
    let i = MetadataPdu now h m in
    let L = Handing.later now R in
    let U = run R.world (Handing.handed R i) in
    let rs = replies R.world (Handing.handed R i) in
    still_if R.world (id_of h) (Handing.is_ours L h) (Handing.metadata_events L h m (session_of L (id_of h)))
    (Turning.metadata_parts L U rs h m (session_of L (id_of h))) (Turning.keeps L (Turning.quiet (Turning.foreign h)))
    (subst (λ (o : Option SessionFields). KnownStill (run R.world (Handing.metadata_events L h m o)) (Turning.metadata_parts L U rs h m o).sessions (id_of h))
    (sym here)
    (metadata_stage R L U rs h m s s.stage refl here known p known))
    (kept_still R R.world (id_of h) s here known p)

data_stage : (R L : State) (U : World) (rs : List Reply) (h : Header) (piece : FileDataFields) (s : SessionFields) (stage : Stage) →
    L.sessions ≡ R.sessions → session_of R (id_of h) ≡ Some s → s.stage ≡ Known → Past R.world (id_of h) →
    stage ≡ Known →
    KnownStill (run R.world (Handing.where_known stage (DataCame h piece ∷ [])))
    (if Turning.is_known stage then Turning.takes_piece L U rs h piece s else Turning.keeps L (Turning.said_word s words.Idle)).sessions (id_of h)
data_stage R L U rs h piece s (Held eof) same here known p k = absurd cc
data_stage R L U rs h piece s Known same here known p k =
    subst (λ (ss : List SessionFields). KnownStill (next R.world (DataCame h piece)).0 (replaced ss (Turning.heard_session L U s)) (id_of h)) (sym same)
    (heard_still R L U (next R.world (DataCame h piece)).0 (id_of h) s here known (data_next R.world h piece p))
data_stage R L U rs h piece s (OverStage ending) same here known p k = absurd cc
data_stage R L U rs h piece s Waiting same here known p k = absurd cc

own_data : (R : State) (now : ℕ) (h : Header) (piece : FileDataFields) (s : SessionFields) → session_of R (id_of h) ≡ Some s → s.stage ≡ Known →
    Past R.world (id_of h) → After R (DataPdu now h piece) (id_of h)
own_data R now h piece s here known p =
    let i = DataPdu now h piece in
    let L = Handing.later now R in
    let U = run R.world (Handing.handed R i) in
    let rs = replies R.world (Handing.handed R i) in
    still_if R.world (id_of h) (Handing.is_ours L h) (Handing.of_session (session_of L (id_of h)) (DataCame h piece ∷ []))
    (Turning.data_parts L U rs h piece (session_of L (id_of h))) (Turning.keeps L (Turning.quiet (Turning.foreign h)))
    (subst (λ (o : Option SessionFields). KnownStill (run R.world (Handing.of_session o (DataCame h piece ∷ [])))
    (Turning.data_parts L U rs h piece o).sessions
    (id_of h)) (sym here)
    (data_stage R L U rs h piece s s.stage refl here known p known))
    (kept_still R R.world (id_of h) s here known p)

eof_stage : (R L : State) (U : World) (rs : List Reply) (h : Header) (eof : Eof) (s : SessionFields) (stage : Stage) → L.sessions ≡ R.sessions →
    session_of R (id_of h) ≡ Some s → s.stage ≡ Known → Past R.world (id_of h) →
    stage ≡ Known →
    KnownStill (run R.world (Handing.where_known stage (Handing.eof_events L h eof))) (Turning.eof_stage L U rs h eof s stage).sessions (id_of h)
eof_stage R L U rs h eof s (Held held) same here known p k = absurd cc
eof_stage R L U rs h eof s Known same here known p k =
    unless_both (λ (es : List Event) (parts : Turning.Parts). KnownStill (run R.world es) parts.sessions (id_of h))
    (not (eof.condition == 0) && Handing.is_list_begun L (id_of h)) (EofCame h eof ∷ []) (Turning.keeps L (Turning.acks_only h eof Active words.ListBegun))
    (Turning.takes_eof L U rs h eof s)
    (subst (λ (ss : List SessionFields). KnownStill R.world ss (id_of h)) (sym same) (kept_still R R.world (id_of h) s here known p))
    (subst (λ (ss : List SessionFields). KnownStill (next R.world (EofCame h eof)).0 (replaced ss (Turning.heard_session L U s)) (id_of h)) (sym same)
    (heard_still R L U (next R.world (EofCame h eof)).0 (id_of h) s here known (eof_next R.world h eof p)))
eof_stage R L U rs h eof s (OverStage ending) same here known p k = absurd cc
eof_stage R L U rs h eof s Waiting same here known p k = absurd cc

own_eof : (R : State) (now : ℕ) (h : Header) (eof : Eof) (s : SessionFields) → session_of R (id_of h) ≡ Some s → s.stage ≡ Known → Past R.world (id_of h) →
    After R (EofPdu now h eof) (id_of h)
own_eof R now h eof s here known p =
    let i = EofPdu now h eof in
    let L = Handing.later now R in
    let U = run R.world (Handing.handed R i) in
    let rs = replies R.world (Handing.handed R i) in
    still_if R.world (id_of h) (Handing.is_ours L h) (Handing.of_session (session_of L (id_of h)) (Handing.eof_events L h eof))
    (Turning.eof_parts L U rs h eof (session_of L (id_of h))) (Turning.keeps L (Turning.quiet (Turning.foreign h)))
    (subst (λ (o : Option SessionFields). KnownStill (run R.world (Handing.of_session o (Handing.eof_events L h eof)))
    (Turning.eof_parts L U rs h eof o).sessions (id_of h)) (sym here)
    (eof_stage R L U rs h eof s s.stage refl here known p known))
    (kept_still R R.world (id_of h) s here known p)

ack_stage : (R L : State) (h : Header) (ack : Ack) (s : SessionFields) (stage : Stage) → L.sessions ≡ R.sessions → session_of R (id_of h) ≡ Some s →
    s.stage ≡ Known → Past R.world (id_of h) → stage ≡ Known →
    KnownStill R.world (Turning.ack_stage L h ack s stage).sessions (id_of h)
ack_stage R L h ack s (Held eof) same here known p k = absurd cc
ack_stage R L h ack s Known same here known p k =
    subst (λ (ss : List SessionFields). KnownStill R.world ss (id_of h)) (sym same) (kept_still R R.world (id_of h) s here known p)
ack_stage R L h ack s (OverStage ending) same here known p k = absurd cc
ack_stage R L h ack s Waiting same here known p k = absurd cc

own_ack : (R : State) (now : ℕ) (h : Header) (ack : Ack) (s : SessionFields) → session_of R (id_of h) ≡ Some s → s.stage ≡ Known → Past R.world (id_of h) →
    After R (AckPdu now h ack) (id_of h)
own_ack R now h ack s here known p =
    let L = Handing.later now R in
    either_way (λ (parts : Turning.Parts). KnownStill R.world parts.sessions (id_of h)) (Handing.is_ours L h)
    (Turning.ack_parts L h ack (session_of L (id_of h)))
    (Turning.keeps L (Turning.quiet (Turning.foreign h)))
    (subst (λ (o : Option SessionFields). KnownStill R.world (Turning.ack_parts L h ack o).sessions (id_of h)) (sym here)
    (ack_stage R L h ack s s.stage refl here known p known))
    (kept_still R R.world (id_of h) s here known p)

own_prompt : (R : State) (now : ℕ) (h : Header) (prompt : Prompt) (s : SessionFields) → session_of R (id_of h) ≡ Some s → s.stage ≡ Known →
    Past R.world (id_of h) → After R (PromptPdu now h prompt) (id_of h)
own_prompt R now h prompt s here known p =
    let L = Handing.later now R in
    let r = roused_is L s in
    let kept = kept_still R R.world (id_of h) s here known p in
    either_way (λ (parts : Turning.Parts). KnownStill R.world parts.sessions (id_of h)) (Handing.is_ours L h)
    (Turning.prompt_parts L h prompt (session_of L (id_of h)))
    (Turning.keeps L (Turning.quiet (Turning.foreign h)))
    (subst (λ (o : Option SessionFields). KnownStill R.world (Turning.prompt_parts L h prompt o).sessions (id_of h)) (sym here)
    (either_way (λ (parts : Turning.Parts). KnownStill R.world parts.sessions (id_of h)) (s.header.acknowledged && Turning.takes_prompts (at_of L.world s))
    (Turning.replaces_one L (Turning.roused L s) (Turning.prompted L h s prompt)) (Turning.keeps L (Turning.said_of_header h words.Idle))
    (put_still R R.world (id_of h) s (Turning.roused L s) here known r.1 r.0 p) kept))
    kept

own_other : (R : State) (now : ℕ) (h : Header) (s : SessionFields) → session_of R (id_of h) ≡ Some s → s.stage ≡ Known → Past R.world (id_of h) →
    After R (OtherPdu now h) (id_of h)
own_other R now h s here known p =
    let L = Handing.later now R in
    let kept = kept_still R R.world (id_of h) s here known p in
    either_way (λ (parts : Turning.Parts). KnownStill R.world parts.sessions (id_of h)) (Handing.is_ours L h) (Turning.keeps L (Turning.quiet became.NotOurs))
    (Turning.keeps L (Turning.quiet (Turning.foreign h))) kept kept

cancel_stage : (R L : State) (rs : List Reply) (id : TransactionId) (s : SessionFields) (stage : Stage) → L.sessions ≡ R.sessions →
    session_of R id ≡ Some s → s.stage ≡ Known → Past R.world id → stage ≡ Known →
    KnownStill (run R.world (Handing.where_known stage (Handing.cancel_events L id))) (Turning.cancel_stage L rs s stage).sessions id
cancel_stage R L rs id s (Held eof) same here known p k = absurd cc
cancel_stage R L rs id s Known same here known p k =
    let begun = Turning.keeps L (Turning.said_word s words.ListBegun) in
    let handed = Turning.keeps L (Turning.quiet (Turning.became_reply (session_id s) rs)) in
    subst (λ (n : TransactionId). KnownStill (run R.world (Handing.cancel_events L id)) (if Handing.is_list_begun L n then begun else handed).sessions id)
    (sym (found_name R.sessions id s here))
    (unless_both (λ (es : List Event) (parts : Turning.Parts). KnownStill (run R.world es) parts.sessions id) (Handing.is_list_begun L id)
    (Cancel id ∷ []) begun handed
    (subst (λ (ss : List SessionFields). KnownStill R.world ss id) (sym same) (kept_still R R.world id s here known p))
    (subst (λ (ss : List SessionFields). KnownStill (next R.world (Cancel id)).0 ss id) (sym same)
    (kept_still R (next R.world (Cancel id)).0 id s here known (cancel_next R.world id p))))
cancel_stage R L rs id s (OverStage ending) same here known p k = absurd cc
cancel_stage R L rs id s Waiting same here known p k = absurd cc

own_cancel : (R : State) (now : ℕ) (id : TransactionId) (s : SessionFields) → session_of R id ≡ Some s → s.stage ≡ Known → Past R.world id →
    After R (CancelAsked now id) id
own_cancel R now id s here known p =
    let i = CancelAsked now id in
    let L = Handing.later now R in
    let rs = replies R.world (Handing.handed R i) in
    subst (λ (o : Option SessionFields). KnownStill (run R.world (Handing.of_session o (Handing.cancel_events L id)))
    (Turning.cancel_parts L rs id o).sessions id)
    (sym here)
    (cancel_stage R L rs id s s.stage refl here known p known)

-- ---- its timer does not run

-- its items are performed, or it is over
past_at : (phase : Phase) → takes_data phase ≡ false → (at_phase phase ≡ At_executing) ⊎ (at_phase phase ≡ At_over)
past_at Receiving h = absurd cc
past_at (Awaiting checks) h = absurd cc
past_at (Executing n) h = inl refl
past_at Refused h = inr refl
past_at Done h = inr refl
past_at (Ended condition) h = inr refl

at_is : (R : State) (id : TransactionId) (s : SessionFields) (p : Past R.world id) → session_of R id ≡ Some s → s.stage ≡ Known →
    at_of R.world s ≡ at_phase p.entry.phase
at_is R id s p here known =
    ap (λ (stage : Stage). at_stage stage (entry_of R.world (session_id s))) known
    ∙ ap (λ (n : TransactionId). at_entry (entry_of R.world n)) (found_name R.sessions id s here)
    ∙ ap at_entry p.here

no_terms : (mib : Mib) (checks : ℕ) (acknowledged : Bool) (timer : Timer) (at : JointPhase) → (at ≡ At_executing) ⊎ (at ≡ At_over) →
    Dues.terms_at mib checks acknowledged timer at ≡ None
no_terms mib checks true timer at (inl e) = ap (Dues.terms_at mib checks true timer) e
no_terms mib checks false timer at (inl e) = ap (Dues.terms_at mib checks false timer) e
no_terms mib checks true timer at (inr e) = ap (Dues.terms_at mib checks true timer) e
no_terms mib checks false timer at (inr e) = ap (Dues.terms_at mib checks false timer) e

never_due : (R : State) (s : SessionFields) → (at_of R.world s ≡ At_executing) ⊎ (at_of R.world s ≡ At_over) → Dues.expiry_of R s ≡ NotDue
never_due R s at = ap (Dues.expiry_by R.now s.timer) (no_terms R.mib R.world.config.checks s.header.acknowledged s.timer (at_of R.world s) at)

not_due : (R : State) (now : ℕ) (id : TransactionId) (s t : SessionFields) → session_of R id ≡ Some s → s.stage ≡ Known → (p : Past R.world id) →
    (at_phase p.entry.phase ≡ At_executing) ⊎ (at_phase p.entry.phase ≡ At_over) → s ≡ t → Dues.expiry_of (Handing.later now R) t ≡ NotDue
not_due R now id s t here known p at it =
    let L = Handing.later now R in
    ap (Dues.expiry_of L) (sym it) ∙ never_due L s (subst (λ (x : JointPhase). (x ≡ At_executing) ⊎ (x ≡ At_over)) (sym (at_is R id s p here known)) at)

due_still : (R : State) (now : ℕ) (U : World) (id : TransactionId) (s : SessionFields) (due : Dues.Due) → AreDistinct R.sessions →
    session_of R id ≡ Some s → s.stage ≡ Known → (p : Past R.world id) →
    (at_phase p.entry.phase ≡ At_executing) ⊎ (at_phase p.entry.phase ≡ At_over) → Dues.first_due (Handing.later now R) R.sessions ≡ due →
    is_same (due_name due) id ≡ true →
    KnownStill (run R.world (Handing.due_events (Handing.later now R) due)) (Turning.due_parts (Handing.later now R) U due).sessions id
due_still R now U id s Dues.Nothing_due d here known p at is same = kept_still R R.world id s here known p
due_still R now U id s (Dues.Alive_due t) d here known p at is same =
    let L = Handing.later now R in
    let it : s ≡ t = is_it R id s t d here (alive_due L R.sessions t is).0 same in
    subst (λ (y : SessionFields). KnownStill R.world (replaced R.sessions (record y { alive_at = L.now })) id) it
    (put_still R R.world id s (record s { alive_at = L.now }) here known refl refl p)
due_still R now U id s (Dues.Stage_due t false) d here known p at is same =
    let L = Handing.later now R in
    let due = stage_due L R.sessions t false is in
    let never : NotDue ≡ Again = sym (not_due R now id s t here known p at (is_it R id s t d here due.0 same)) ∙ due.1 in
    absurd cc
due_still R now U id s (Dues.Stage_due t true) d here known p at is same =
    let L = Handing.later now R in
    let due = stage_due L R.sessions t true is in
    let never : NotDue ≡ Limit = sym (not_due R now id s t here known p at (is_it R id s t d here due.0 same)) ∙ due.1 in
    absurd cc

-- ---- every input

-- its outcome is handed out, or it goes on
data TurnsPast (R : State) (i : Input) (id : TransactionId) : Type 0 where
  Concludes : (moment : ℕ) → (is : i ≡ Finish moment) → (s : SessionFields) → (over : Dues.first_over R.world R.sessions ≡ Some s) →
      (named : session_id s ≡ id) → TurnsPast R i id
  Goes_on : (still : After R i id) → TurnsPast R i id

other_still : NextIsSound → NextIsPromised → (R : State) (i : Input) (id : TransactionId) (s : SessionFields) → Sound R.world → session_of R id ≡ Some s →
    s.stage ≡ Known → Past R.world id → is_work i ≡ false → is_same (touched R i) id ≡ false →
    After R i id
other_still next_sound promised R i id s sound here known p w other = record {
  session = s;
  here = others_stay R i id other ∙ here;
  known = known;
  past = record { entry = p.entry; here = others_keep_entries next_sound promised R i id sound w other ∙ p.here; past = p.past };
}

-- a PDU of its own, or of another transaction
pdu_still : NextIsSound → NextIsPromised → (R : State) (i : Input) (h : Header) (id : TransactionId) (s : SessionFields) → Sound R.world →
    session_of R id ≡ Some s → s.stage ≡ Known → Past R.world id → is_work i ≡ false → touched R i ≡ id_of h →
    (session_of R (id_of h) ≡ Some s → Past R.world (id_of h) → After R i (id_of h)) → TurnsPast R i id
pdu_still next_sound promised R i h id s sound here known p w of own = elim (cases_Bool (is_same (id_of h) id)) [
  | inl same ↦
      let it = same_is (id_of h) id same in
      Goes_on (subst (After R i) it (own (ap (found R.sessions) it ∙ here) (subst (Past R.world) (sym it) p)))
  | inr other ↦ Goes_on (other_still next_sound promised R i id s sound here known p w (ap (λ (n : TransactionId). is_same n id) of ∙ other))
]

work_past : NextIsSound → NextIsPromised → (W : World) (o : Option TransactionId) (id : TransactionId) → Sound W → Past W id →
    Past (run W (Handing.step_of o)) id
work_past next_sound promised W None id sound p = p
work_past next_sound promised W (Some n) id sound p = elim (cases_Bool (is_same n id)) [
  | inl same ↦ subst (λ (x : TransactionId). Past (next W (Step x)).0 id) (sym (same_is n id same)) (step_next W id p)
  | inr other ↦ record { entry = p.entry; here = (promised W (Step n) sound).others id (other_than n id other) ∙ p.here; past = p.past }
]

finish_turned : NextIsSound → NextIsPromised → (R : State) (now : ℕ) (id : TransactionId) (s : SessionFields) (o : Option SessionFields) → Sound R.world →
    session_of R id ≡ Some s → s.stage ≡ Known → Past R.world id →
    Dues.first_over R.world R.sessions ≡ o → TurnsPast R (Finish now) id
finish_turned next_sound promised R now id s None sound here known p is =
    let L = Handing.later now R in
    Goes_on (subst (λ (o : Option SessionFields). KnownStill (run R.world (Handing.take_of o)) (Turning.finish_parts L o).sessions id) (sym is)
    (kept_still R R.world id s here known p))
finish_turned next_sound promised R now id s (Some t) sound here known p is = elim (cases_Bool (is_same (session_id t) id)) [
  | inl same ↦ Concludes now refl t is (same_is (session_id t) id same)
  | inr other ↦ Goes_on (other_still next_sound promised R (Finish now) id s sound here known p refl
      (ap (λ (o : Option SessionFields). is_same (session_name o) id) is ∙ other))
]

turn_of : NextIsSound → NextIsPromised → (R : State) (i : Input) (id : TransactionId) (s : SessionFields) → Sound R.world → AreDistinct R.sessions →
    session_of R id ≡ Some s → s.stage ≡ Known → Past R.world id → TurnsPast R i id
turn_of next_sound promised R (MetadataPdu now h m) id s sound d here known p =
    pdu_still next_sound promised R (MetadataPdu now h m) h id s sound here known p refl refl (λ own q. own_metadata R now h m s own known q)
turn_of next_sound promised R (DataPdu now h piece) id s sound d here known p =
    pdu_still next_sound promised R (DataPdu now h piece) h id s sound here known p refl refl (λ own q. own_data R now h piece s own known q)
turn_of next_sound promised R (EofPdu now h eof) id s sound d here known p =
    pdu_still next_sound promised R (EofPdu now h eof) h id s sound here known p refl refl (λ own q. own_eof R now h eof s own known q)
turn_of next_sound promised R (AckPdu now h ack) id s sound d here known p =
    pdu_still next_sound promised R (AckPdu now h ack) h id s sound here known p refl refl (λ own q. own_ack R now h ack s own known q)
turn_of next_sound promised R (PromptPdu now h prompt) id s sound d here known p =
    pdu_still next_sound promised R (PromptPdu now h prompt) h id s sound here known p refl refl (λ own q. own_prompt R now h prompt s own known q)
turn_of next_sound promised R (OtherPdu now h) id s sound d here known p =
    pdu_still next_sound promised R (OtherPdu now h) h id s sound here known p refl refl (λ own q. own_other R now h s own known q)
turn_of next_sound promised R (Expire now) id s sound d here known p =
    let L = Handing.later now R in
    let due = Dues.first_due L L.sessions in
    elim (cases_Bool (is_same (due_name due) id)) [
      | inl same ↦ Goes_on (due_still R now (run R.world (Handing.handed R (Expire now))) id s due d here known p (past_at p.entry.phase p.past) refl same)
      | inr other ↦ Goes_on (other_still next_sound promised R (Expire now) id s sound here known p refl other)
    ]
turn_of next_sound promised R (Work now) id s sound d here known p =
    Goes_on (kept_still R (run R.world (Handing.step_of (next_runnable R.world.table))) id s here known
    (work_past next_sound promised R.world (next_runnable R.world.table) id sound p))
turn_of next_sound promised R (Finish now) id s sound d here known p =
    finish_turned next_sound promised R now id s (Dues.first_over R.world R.sessions) sound here known p refl
turn_of next_sound promised R (CancelAsked now n) id s sound d here known p = elim (cases_Bool (is_same n id)) [
  | inl same ↦
      let it = same_is n id same in
      Goes_on (subst (After R (CancelAsked now n)) it (own_cancel R now n s (ap (found R.sessions) it ∙ here) known (subst (Past R.world) (sym it) p)))
  | inr other ↦ Goes_on (other_still next_sound promised R (CancelAsked now n) id s sound here known p refl other)
]
turn_of next_sound promised R ForgetAsked id s sound d here known p = Goes_on (kept_still R R.world id s here known p)
turn_of next_sound promised R (ClockMoved moment) id s sound d here known p = Goes_on (kept_still R R.world id s here known p)
turn_of next_sound promised R NotTaken id s sound d here known p = Goes_on (kept_still R R.world id s here known p)

-- ---- nothing is left

runs_by : (e : Entry) (es : List Entry) (b : Bool) → is_executing e.phase ≡ b → (is_some (next_runnable es) ≡ true) ⊎ (b ≡ true) →
    is_some (if b then Some (Entries.name_of e) else next_runnable es) ≡ true
runs_by e es true is h = refl
runs_by e es false is (inl later) = later
runs_by e es false is (inr now) = absurd cc

found_member : (ss : List SessionFields) (id : TransactionId) (s : SessionFields) → found ss id ≡ Some s → IsMember s ss
found_member [] id s h = absurd cc
found_member (x ∷ xs) id s h = elim (chosen_some (is_same (session_id x) id) x s (found xs id) h) [
  | inl here ↦ inl here.1
  | inr there ↦ inr (found_member xs id s there.1)
]

-- where an item of an entry is next, some item is
runs : (table : List Entry) (k : ℕ) (e : Entry) → slice_get table k ≡ Some e → is_executing e.phase ≡ true → is_some (next_runnable table) ≡ true
runs [] k e at h = absurd cc
runs (x ∷ xs) zero e at h = runs_by x xs (is_executing x.phase) refl (inr (ap (λ (y : Entry). is_executing y.phase) (same_Some x e at) ∙ h))
runs (x ∷ xs) (suc k) e at h = runs_by x xs (is_executing x.phase) refl (inl (runs xs k e at h))

over_by : (x : SessionFields) (b : Bool) (later : Option SessionFields) → (is_some later ≡ true) ⊎ (b ≡ true) → is_some (if b then Some x else later) ≡ true
over_by x true later h = refl
over_by x false later (inl h) = h
over_by x false later (inr h) = absurd cc

overs : (W : World) (ss : List SessionFields) (t : SessionFields) → IsMember t ss → Dues.is_over (at_of W t) ≡ true → is_some (Dues.first_over W ss) ≡ true
overs W [] t m h = elim m [ ]
overs W (x ∷ xs) t (inl e) h = over_by x (Dues.is_over (at_of W x)) (Dues.first_over W xs) (inr (ap (λ (y : SessionFields). Dues.is_over (at_of W y)) e ∙ h))
overs W (x ∷ xs) t (inr m) h = over_by x (Dues.is_over (at_of W x)) (Dues.first_over W xs) (inl (overs W xs t m h))

executes_by : (phase : Phase) → at_phase phase ≡ At_executing → is_executing phase ≡ true
executes_by Receiving h = absurd cc
executes_by (Awaiting checks) h = absurd cc
executes_by (Executing n) h = refl
executes_by Refused h = absurd cc
executes_by Done h = absurd cc
executes_by (Ended condition) h = absurd cc

-- then it is not so any more
left_none : (R : State) (id : TransactionId) (s : SessionFields) → session_of R id ≡ Some s → s.stage ≡ Known → Past R.world id →
    has_nothing_left R ≡ true → ⊥
left_none R id s here known p none =
    let both = and_parts (not (is_some (next_runnable R.world.table))) (not (is_some (Dues.first_over R.world R.sessions))) none in
    elim (past_at p.entry.phase p.past) [
      | inl executes ↦
          both_ways (is_some (next_runnable R.world.table)) (not-true (is_some (next_runnable R.world.table)) both.0)
          (runs R.world.table (index_of R.world id) p.entry p.here (executes_by p.entry.phase executes))
      | inr over ↦
          both_ways (is_some (Dues.first_over R.world R.sessions)) (not-true (is_some (Dues.first_over R.world R.sessions)) both.1)
          (overs R.world R.sessions s (found_member R.sessions id s here) (ap Dues.is_over (at_is R id s p here known ∙ over)))
    ]

pub concluded_later : (R : State) (i : Input) (is : List Input) (id : TransactionId) → WasConcluded (Turning.after_input R i) is id → WasConcluded R (i ∷ is) id
concluded_later R i is id w =
    record {
      front = i ∷ w.front;
      moment = w.moment;
      back = w.back;
      parts = ap (λ (xs : List Input). i ∷ xs) w.parts;
      session = w.session;
      over =
          w.over;
      named = w.named;
    }

goes : NextIsSound → NextIsPromised → (R : State) (inputs : List Input) (id : TransactionId) (s : SessionFields) → Sound R.world → AreDistinct R.sessions →
    session_of R id ≡ Some s → s.stage ≡ Known → Past R.world id →
    has_nothing_left (Turning.after_all R inputs) ≡ true → WasConcluded R inputs id
goes next_sound promised R [] id s sound d here known p none = absurd (left_none R id s here known p none)
goes next_sound promised R (i ∷ is) id s sound d here known p none = elim (turn_of next_sound promised R i id s sound d here known p) [
  | Concludes moment finish t over named ↦
      record { front = []; moment = moment; back = is; parts = ap (λ (x : Input). x ∷ is) finish; session = t; over = over; named = named }
  | Goes_on still ↦
      concluded_later R i is id (goes next_sound promised (Turning.after_input R i) is id still.session
      (run_sound next_sound R.world (Handing.handed R i) sound)
      (distinct_after R i d) still.here still.known still.past none)
]

pub concluded_when_done : NextIsSound → NextIsPromised → ConcludedWhenDone
concluded_when_done next_sound promised R inputs id s e sound d here known there past none =
    goes next_sound promised R inputs id s sound d here known (record { entry = e; here = there; past = past }) none

-- ---- its Finished PDU

sent_and_waits : (R : State) (moment : ℕ) (s : SessionFields) (x : Option Entry) → AreDistinct R.sessions → Dues.first_over R.world R.sessions ≡ Some s →
    s.is_abandoned ≡ false → s.header.acknowledged ≡ true → entry_of R.world (session_id s) ≡ x → (Turning.outcome_for s x).send ≡ true →
    IsSentAndWaits R moment s (Turning.outcome_for s x)
sent_and_waits R moment s x d over kept mode there sends =
    let i = Finish moment in
    let L = Handing.later moment R in
    let o = Turning.outcome_for s x in
    let closed = Turning.closes L (Turning.settled s o) (Turning.said_word s words.Closed) in
    let quietly = Turning.closes L (Turning.settled s o) (Turning.concluded s o words.Closed) in
    let unacknowledged = Turning.closes L (Turning.settled s o) (Turning.sends_it s o words.Closed) in
    let waiting = Turning.replaces_one L (Turning.waits_for_ack L s o) (Turning.sends_it s o words.Finished) in
    let third = if not s.header.acknowledged then unacknowledged else waiting in
    let second = if not o.send then quietly else third in
    let parts : Turning.parts R i ≡ waiting =
    ap (Turning.finish_parts L) over
    ∙ ap (λ (y : Option Entry). Turning.finish_session L s (Turning.outcome_for s y)) there
    ∙ cond-false s.is_abandoned closed second kept
    ∙ cond-false (not o.send) quietly third (ap not sends)
    ∙ cond-false (not s.header.acknowledged) unacknowledged waiting (ap not mode) in
    let here : session_of R (session_id s) ≡ Some s = member_found R.sessions s d (first_over_is R.world R.sessions s over).0 in
    record {
      sent = ap (λ (p : Turning.Parts). p.answer.finished) parts;
      waiting = Turning.waits_for_ack L s o;
      here = ap (λ (p : Turning.Parts). found p.sessions (session_id s)) parts ∙ replaced_self R.sessions (Turning.waits_for_ack L s o) (session_id s)
          (s, here) refl;
      waits = refl;
      anew = refl;
    }

pub finished_is_sent : FinishedIsSent
finished_is_sent R moment s e d over kept mode there owner =
    sent_and_waits R moment s (Some e) d over kept mode there (ap (λ (b : Bool). b || e.metadata.closure) owner)

pub finished_is_sent_alone : FinishedIsSentAlone
finished_is_sent_alone R moment s ending d over kept mode there stage sent =
    sent_and_waits R moment s None d over kept mode there
    (ap (λ (st : Stage). (Turning.stage_outcome s st).send) stage ∙ sent)
