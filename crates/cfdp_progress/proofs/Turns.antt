-- One turn of a receiver in which a transaction waits for octets.
use Rattle.std.specs.Prelude.{if◌then◌else◌, ◌==◌}
use Rattle.std.proofs.Common.{◌≡◌, inl, inr, ℕ, ◌+◌, ◌≤◌, Bool, true, false, not, ◌&&◌, ◌==◌, if◌then◌else◌, List, [], ◌∷◌, length, Option, Some, None, refl, sym, ap, subst, ◌∙◌, arith}
use Rattle.std.proofs.lemmas.Bool.{cond_both, cond-true, cond-false, cases_Bool, and_parts, and_from, and_left, and_right, eq-eqb, eqb-true, both_ways}
use Rattle.cfdp_status.proofs.Choices.{either_way}
use Rattle.cfdp_status.specs.declared.transaction.TransactionId.{TransactionId}
use Rattle.cfdp_leases.specs.Leases.{is_same}
use Rattle.cfdp_pdus.specs.Values.{MetadataFields, FileDataFields}
use Rattle.cfdp_pdus.specs.declared.eof.Eof.{Eof}
use Rattle.cfdp_pdus.specs.declared.header.Header.{Header}
use Rattle.cfdp_directives.specs.declared.ack.Ack.{Ack}
use Rattle.cfdp_directives.specs.declared.prompt.Prompt.{Prompt}
use Rattle.cfdp_retransmission.specs.Coming.{Piece, keep, keep_all}
use Rattle.cfdp_retransmission.specs.Timers.{restarted, passed}
use Rattle.cfdp_retransmission.proofs.Hearing.{Within}
use Rattle.cfdp_retransmission.specs.declared.timer.Expiry.TheVariants.{Again}
use Rattle.cfdp_sessions.specs.Sessions.{SessionFields, session_id, found, replaced, AreDistinct}
use Rattle.cfdp_sessions.specs.declared.session.Stage.{Stage}
use Rattle.cfdp_sessions.specs.declared.session.Stage.TheVariants.{Held, Known, Over as OverStage, Waiting}
use Rattle.cfdp_sessions.proofs.Names.{found_name, replaced_self}
use Rattle.cfdp_transactions.specs.Config.{Config}
use Rattle.cfdp_transactions.specs.Entry.{Entry, id_of, is_live, is_receiving, is_awaiting}
use Rattle.cfdp_transactions.specs.Delivery.{eof_without_error, eof_came}
use Rattle.cfdp_transactions.specs.Ending.{ends}
use Rattle.cfdp_transactions.specs.Received.{Received}
use Rattle.cfdp_transactions.specs.declared.event.Event.{Event}
use Rattle.cfdp_transactions.specs.declared.event.Event.TheVariants.{Metadata as MetadataCame, Data as DataCame, Eof as EofCame, Check}
use Rattle.cfdp_transactions.specs.declared.phase.Phase.{Phase}
use Rattle.cfdp_transactions.specs.declared.phase.Phase.TheVariants.{Awaiting}
use Rattle.cfdp_transactions.specs.declared.reply.Reply.{Reply}
use Rattle.cfdp_transactions.specs.Headline.{NextIsSound, NextIsPromised}
use Rattle.cfdp_transactions.specs.Next.{next, run, replies}
use Rattle.cfdp_transactions.specs.Sound.{Sound}
use Rattle.cfdp_transactions.specs.World.{World, bound, entry_of, index_of, next_runnable}
use Rattle.cfdp_receiver.specs.declared.indication.Became.TheVariants as became
use Rattle.cfdp_directives.specs.declared.ack.TransactionStatus.TheVariants.{Active}
use Rattle.cfdp_receiver.specs.declared.indication.Word.TheVariants as words
use Rattle.cfdp_receiver.specs.declared.mib.Handler.{Handler}
use Rattle.cfdp_receiver.specs.declared.mib.Handler.TheVariants as handlers
use Rattle.cfdp_receiver.specs.declared.joint_phase.JointPhase.{JointPhase}
use Rattle.cfdp_receiver.specs.declared.joint_phase.JointPhase.TheVariants.{Awaiting as At_awaiting}
use Rattle.cfdp_receiver.specs.State.{State, Input, MetadataPdu, DataPdu, EofPdu, AckPdu, PromptPdu, OtherPdu, Expire, Work, Finish, CancelAsked, ForgetAsked, ClockMoved, NotTaken, session_of, at_of, at_stage, at_entry, at_phase}
use Rattle.cfdp_receiver.specs.Due as Dues
use Rattle.cfdp_receiver.specs.Handing as Handing
use Rattle.cfdp_receiver.specs.Turning as Turning
use Rattle.cfdp_receiver.specs.Laws.{due_name, session_name, touched, is_work}
use Rattle.cfdp_receiver.proofs.LimitsReached.{acknowledged_none}
use Rattle.cfdp_receiver.proofs.FinishedSentAtMost.{stage_due, alive_due, first_over_is, is_it}
use Rattle.cfdp_receiver.proofs.AnswerParts.{heard_name}
use Rattle.cfdp_receiver.proofs.TurnShapes.{others_stay}
use Rattle.cfdp_progress.specs.Awaiting.{EntryAwaits, is_ignoring, is_given_up, breaks_off, piece_in, IsDelivered}
use Rattle.cfdp_progress.specs.NakRounds.{is_asking, asks_again}
use Rattle.cfdp_progress.proofs.Configured.{run_config}
use Rattle.cfdp_receiver.proofs.OthersStay.{others_keep_entries, work_keeps_others}
use Rattle.cfdp_progress.proofs.NoItemNext.{none_runs}
use Rattle.cfdp_progress.proofs.PieceOfAwaiting.{Comes, Goes_on, Is_over, comes}
use Rattle.cfdp_receiver.proofs.Serving.{none_known}
use Rattle.cfdp_receiver.proofs.MetadataAgain.{known_same}
use Rattle.cfdp_leases.proofs.Admitted.{same_is}

-- ---- what becomes of it

-- the transaction goes on waiting, and its timer has counted no more than before, where it was not served below the limit; or its file is
-- delivered
pub data Goes (V : World) (ss : List SessionFields) (id : TransactionId) (eof : Eof) (received : Received) (count : ℕ) (again : Bool) : Type 0 where
  Still : (after : Entry) → (awaits : EntryAwaits V id after eof) → (kept : after.received ≡ received) → (s : SessionFields) →
      (here : found ss id ≡ Some s) →
      (known : s.stage ≡ Known) → (acknowledged : s.header.acknowledged ≡ true) → (few : again ≡ false → s.timer.count ≤ count) →
      Goes V ss id eof received count again
  Is_done : (delivered : IsDelivered V id) → Goes V ss id eof received count again

-- the world stays, and the session but for its timer
pub record Quiet (W : World) (id : TransactionId) (s : SessionFields) (again : Bool) (V : World) (ss : List SessionFields) : Type 0 where
  pub world : V ≡ W
  pub session : SessionFields
  pub here : found ss id ≡ Some session
  pub stage : session.stage ≡ s.stage
  pub header : session.header ≡ s.header
  pub few : again ≡ false → session.timer.count ≤ s.timer.count

-- what is known before
pub record Before (R : State) (id : TransactionId) (e : Entry) (eof : Eof) (s : SessionFields) : Type 0 where
  pub here : session_of R id ≡ Some s
  pub known : s.stage ≡ Known
  pub acknowledged : s.header.acknowledged ≡ true
  pub core : EntryAwaits R.world id e eof

quiet_goes : (R : State) (id : TransactionId) (e : Entry) (eof : Eof) (s : SessionFields) (again : Bool) (V : World) (ss : List SessionFields) →
    Before R id e eof s →
    Quiet R.world id s again V ss → Goes V ss id eof e.received s.timer.count again
quiet_goes R id e eof s again V ss b q =
    Still e (subst (λ (U : World). EntryAwaits U id e eof) (sym q.world) b.core) refl q.session q.here (q.stage ∙ b.known)
    (ap (λ (h : Header). h.acknowledged) q.header ∙ b.acknowledged) q.few

pub kept_quiet : (R : State) (id : TransactionId) (s : SessionFields) (again : Bool) → session_of R id ≡ Some s → Quiet R.world id s again R.world R.sessions
kept_quiet R id s again here = record { world = refl; session = s; here = here; stage = refl; header = refl; few = λ q. omega arith }

pub put_quiet : (R : State) (id : TransactionId) (s t : SessionFields) (again : Bool) (V : World) → session_of R id ≡ Some s → V ≡ R.world → t.stage ≡ s.stage →
    t.header ≡ s.header → (again ≡ false → t.timer.count ≤ s.timer.count) →
    Quiet R.world id s again V (replaced R.sessions t)
put_quiet R id s t again V here world stage header few =
    let name : session_id t ≡ id = ap id_of header ∙ found_name R.sessions id s here in
    record { world = world; session = t; here = replaced_self R.sessions t id (s, here) name; stage = stage; header = header; few = few }

quiet_if : (R : State) (id : TransactionId) (s : SessionFields) (again b : Bool) (es : List Event) (p q : Turning.Parts) →
    Quiet R.world id s again (run R.world es) p.sessions →
    Quiet R.world id s again R.world q.sessions → Quiet R.world id s again (run R.world (if b then es else [])) (if b then p else q).sessions
quiet_if R id s again true es p q hp hq = hp
quiet_if R id s again false es p q hp hq = hq

-- what a session hears
pub heard_is : (R : State) (V : World) (s : SessionFields) →
    ((Turning.heard_session R V s).stage ≡ s.stage) × ((Turning.heard_session R V s).header ≡ s.header) ×
    ((Turning.heard_session R V s).timer.count ≤ s.timer.count)
heard_is R V s =
    cond_both (Turning.is_news R.world V s) (record s { timer = restarted R.now }) s
    (λ (t : SessionFields). (t.stage ≡ s.stage) × (t.header ≡ s.header) × (t.timer.count ≤ s.timer.count))
    (λ e. (refl, refl, omega arith)) (λ e. (refl, refl, omega arith))

heard_quiet : (R L : State) (U V : World) (id : TransactionId) (s : SessionFields) (again : Bool) → session_of R id ≡ Some s → V ≡ R.world →
    Quiet R.world id s again V (replaced R.sessions (Turning.heard_session L U s))
heard_quiet R L U V id s again here world =
    let h = heard_is L U s in
    put_quiet R id s (Turning.heard_session L U s) again V here world h.0 h.1 (λ q. h.2)

-- ---- PDUs of the transaction that change nothing of it

unmoved_eof : (W : World) (h : Header) (eof other : Eof) (e : Entry) → EntryAwaits W (id_of h) e eof → other.condition ≡ 0 →
    (next W (EofCame h other)).0 ≡ W
unmoved_eof W h eof other e a none =
    let k = index_of W (id_of h) in
    let live : not (is_live e.phase) ≡ false = ap (λ (p : Phase). not (is_live p)) a.phase in
    let right : not (other.condition == 0) ≡ false = ap not (eq-eqb other.condition 0 none) in
    let past : not (is_receiving e.phase) ≡ true = ap (λ (p : Phase). not (is_receiving p)) a.phase in
    let last : World × Reply = if not (is_receiving e.phase) then (W, Reply.Duplicate) else eof_without_error W k e other in
    let faulted : World × Reply = (ends W k (record e { ended_by_eof = true }) other.condition, Reply.Faulted other.condition) in
    let more : World × Reply = if not (other.condition == 0) then faulted else last in
    let same : (eof_came W k other (Some e)).0 ≡ W =
    ap (λ (b : World × Reply). b.0) (cond-false (not (is_live e.phase)) (W, Reply.Idle) more live)
    ∙ ap (λ (b : World × Reply). b.0) (cond-false (not (other.condition == 0)) faulted last right)
    ∙ ap (λ (b : World × Reply). b.0) (cond-true (not (is_receiving e.phase)) (W, Reply.Duplicate) (eof_without_error W k e other) past) in
    cond_both (h.destination == W.config.entity) (eof_came W k other (entry_of W (id_of h))) (W, Reply.NotForUs) (λ (b : World × Reply). b.0 ≡ W)
    (λ q. ap (λ (o : Option Entry). (eof_came W k other o).0) a.here ∙ same) (λ q. refl)

quiet_metadata_stage : (R L : State) (U : World) (rs : List Reply) (h : Header) (m : MetadataFields) (e : Entry) (s : SessionFields) (stage : Stage) →
    session_of R (id_of h) ≡ Some s → entry_of R.world (id_of h) ≡ Some e → L.sessions ≡ R.sessions →
    stage ≡ Known →
    Quiet R.world (id_of h) s false (run R.world (Handing.metadata_in_stage h m s stage)) (Turning.metadata_stage L U rs h m s stage).sessions
quiet_metadata_stage R L U rs h m e s (Held eof) here there same k = absurd cc
quiet_metadata_stage R L U rs h m e s Known here there same k =
    subst (λ (ss : List SessionFields). Quiet R.world (id_of h) s false (next R.world (MetadataCame h m)).0 (replaced ss (Turning.heard_session L U s)))
    (sym same)
    (heard_quiet R L U (next R.world (MetadataCame h m)).0 (id_of h) s false here (known_same R.world h m e there))
quiet_metadata_stage R L U rs h m e s (OverStage ending) here there same k = absurd cc
quiet_metadata_stage R L U rs h m e s Waiting here there same k = absurd cc

quiet_metadata : (R : State) (now : ℕ) (h : Header) (m : MetadataFields) (e : Entry) (eof : Eof) (s : SessionFields) → Before R (id_of h) e eof s →
    Quiet R.world (id_of h) s false (Turning.after_input R (MetadataPdu now h m)).world (Turning.after_input R (MetadataPdu now h m)).sessions
quiet_metadata R now h m e eof s b =
    let i = MetadataPdu now h m in
    let L = Handing.later now R in
    let U = run R.world (Handing.handed R i) in
    let rs = replies R.world (Handing.handed R i) in
    quiet_if R (id_of h) s false (Handing.is_ours L h) (Handing.metadata_events L h m (session_of L (id_of h)))
    (Turning.metadata_parts L U rs h m (session_of L (id_of h))) (Turning.keeps L (Turning.quiet (Turning.foreign h)))
    (subst (λ (o : Option SessionFields). Quiet R.world (id_of h) s false (run R.world (Handing.metadata_events L h m o))
    (Turning.metadata_parts L U rs h m o).sessions) (sym b.here)
    (quiet_metadata_stage R L U rs h m e s s.stage b.here b.core.here refl b.known))
    (kept_quiet R (id_of h) s false b.here)

-- of two events and what becomes of the sessions, by one test
pub unless_both : (P : List Event → Turning.Parts → Type 0) (b : Bool) (es : List Event) (p q : Turning.Parts) → P [] p → P es q →
    P (if b then [] else es) (if b then p else q)
unless_both P true es p q hp hq = hp
unless_both P false es p q hp hq = hq

-- an EOF PDU without a fault is handed on
pub no_cancel : (L : State) (h : Header) (eof : Eof) → eof.condition ≡ 0 → (not (eof.condition == 0) && Handing.is_list_begun L (id_of h)) ≡ false
no_cancel L h eof none = and_left (not (eof.condition == 0)) (Handing.is_list_begun L (id_of h)) (ap not (eq-eqb eof.condition 0 none))

quiet_eof_stage : (R L : State) (U : World) (rs : List Reply) (h : Header) (other eof : Eof) (e : Entry) (s : SessionFields) (stage : Stage) →
    session_of R (id_of h) ≡ Some s → EntryAwaits R.world (id_of h) e eof →
    other.condition ≡ 0 → L.sessions ≡ R.sessions → stage ≡ Known →
    Quiet R.world (id_of h) s false (run R.world (Handing.where_known stage (Handing.eof_events L h other))) (Turning.eof_stage L U rs h other s stage).sessions
quiet_eof_stage R L U rs h other eof e s (Held held) here a none same k = absurd cc
quiet_eof_stage R L U rs h other eof e s Known here a none same k =
    let begun = Turning.keeps L (Turning.acks_only h other Active words.ListBegun) in
    let taken = Turning.takes_eof L U rs h other s in
    subst (λ (b : Bool). Quiet R.world (id_of h) s false (run R.world (if b then [] else EofCame h other ∷ [])) (if b then begun else taken).sessions)
    (sym (no_cancel L h other none))
    (subst (λ (ss : List SessionFields). Quiet R.world (id_of h) s false (next R.world (EofCame h other)).0 (replaced ss (Turning.heard_session L U s)))
    (sym same)
    (heard_quiet R L U (next R.world (EofCame h other)).0 (id_of h) s false here (unmoved_eof R.world h eof other e a none)))
quiet_eof_stage R L U rs h other eof e s (OverStage ending) here a none same k = absurd cc
quiet_eof_stage R L U rs h other eof e s Waiting here a none same k = absurd cc

quiet_eof : (R : State) (now : ℕ) (h : Header) (other : Eof) (e : Entry) (eof : Eof) (s : SessionFields) → Before R (id_of h) e eof s →
    other.condition ≡ 0 →
    Quiet R.world (id_of h) s false (Turning.after_input R (EofPdu now h other)).world (Turning.after_input R (EofPdu now h other)).sessions
quiet_eof R now h other e eof s b none =
    let i = EofPdu now h other in
    let L = Handing.later now R in
    let U = run R.world (Handing.handed R i) in
    let rs = replies R.world (Handing.handed R i) in
    quiet_if R (id_of h) s false (Handing.is_ours L h) (Handing.of_session (session_of L (id_of h)) (Handing.eof_events L h other))
    (Turning.eof_parts L U rs h other (session_of L (id_of h))) (Turning.keeps L (Turning.quiet (Turning.foreign h)))
    (subst (λ (o : Option SessionFields). Quiet R.world (id_of h) s false (run R.world (Handing.of_session o (Handing.eof_events L h other)))
    (Turning.eof_parts L U rs h other o).sessions) (sym b.here)
    (quiet_eof_stage R L U rs h other eof e s s.stage b.here b.core none refl b.known))
    (kept_quiet R (id_of h) s false b.here)

quiet_ack_stage : (R L : State) (h : Header) (ack : Ack) (s : SessionFields) (stage : Stage) → session_of R (id_of h) ≡ Some s → L.sessions ≡ R.sessions →
    stage ≡ Known →
    Quiet R.world (id_of h) s false R.world (Turning.ack_stage L h ack s stage).sessions
quiet_ack_stage R L h ack s (Held held) here same k = absurd cc
quiet_ack_stage R L h ack s Known here same k =
    subst (λ (ss : List SessionFields). Quiet R.world (id_of h) s false R.world ss) (sym same) (kept_quiet R (id_of h) s false here)
quiet_ack_stage R L h ack s (OverStage ending) here same k = absurd cc
quiet_ack_stage R L h ack s Waiting here same k = absurd cc

quiet_ack : (R : State) (now : ℕ) (h : Header) (ack : Ack) (s : SessionFields) → session_of R (id_of h) ≡ Some s → s.stage ≡ Known →
    Quiet R.world (id_of h) s false R.world (Turning.after_input R (AckPdu now h ack)).sessions
quiet_ack R now h ack s here known =
    let L = Handing.later now R in
    either_way (λ (parts : Turning.Parts). Quiet R.world (id_of h) s false R.world parts.sessions) (Handing.is_ours L h)
    (Turning.ack_parts L h ack (session_of L (id_of h)))
    (Turning.keeps L (Turning.quiet (Turning.foreign h)))
    (subst (λ (o : Option SessionFields). Quiet R.world (id_of h) s false R.world (Turning.ack_parts L h ack o).sessions) (sym here)
    (quiet_ack_stage R L h ack s s.stage here refl known))
    (kept_quiet R (id_of h) s false here)

pub roused_is : (R : State) (s : SessionFields) →
    ((Turning.roused R s).stage ≡ s.stage) × ((Turning.roused R s).header ≡ s.header) × ((Turning.roused R s).timer.count ≤ s.timer.count)
roused_is R s =
    cond_both (Dues.is_receiving_at (at_of R.world s)) (record s { timer = restarted R.now }) s
    (λ (t : SessionFields). (t.stage ≡ s.stage) × (t.header ≡ s.header) × (t.timer.count ≤ s.timer.count))
    (λ e. (refl, refl, omega arith)) (λ e. (refl, refl, omega arith))

pub quiet_prompt : (R : State) (now : ℕ) (h : Header) (prompt : Prompt) (s : SessionFields) → session_of R (id_of h) ≡ Some s →
    Quiet R.world (id_of h) s false R.world (Turning.after_input R (PromptPdu now h prompt)).sessions
quiet_prompt R now h prompt s here =
    let L = Handing.later now R in
    let r = roused_is L s in
    let takes = s.header.acknowledged && Turning.takes_prompts (at_of L.world s) in
    let put = Turning.replaces_one L (Turning.roused L s) (Turning.prompted L h s prompt) in
    let idle = Turning.keeps L (Turning.said_of_header h words.Idle) in
    either_way (λ (parts : Turning.Parts). Quiet R.world (id_of h) s false R.world parts.sessions) (Handing.is_ours L h)
    (Turning.prompt_parts L h prompt (session_of L (id_of h)))
    (Turning.keeps L (Turning.quiet (Turning.foreign h)))
    (subst (λ (o : Option SessionFields). Quiet R.world (id_of h) s false R.world (Turning.prompt_parts L h prompt o).sessions) (sym here)
    (either_way (λ (parts : Turning.Parts). Quiet R.world (id_of h) s false R.world parts.sessions) takes put idle
    (put_quiet R (id_of h) s (Turning.roused L s) false R.world here refl r.0 r.1 (λ q. r.2)) (kept_quiet R (id_of h) s false here)))
    (kept_quiet R (id_of h) s false here)

pub quiet_other : (R : State) (now : ℕ) (h : Header) (s : SessionFields) → session_of R (id_of h) ≡ Some s →
    Quiet R.world (id_of h) s false R.world (Turning.after_input R (OtherPdu now h)).sessions
quiet_other R now h s here =
    let L = Handing.later now R in
    either_way (λ (parts : Turning.Parts). Quiet R.world (id_of h) s false R.world parts.sessions) (Handing.is_ours L h)
    (Turning.keeps L (Turning.quiet became.NotOurs))
    (Turning.keeps L (Turning.quiet (Turning.foreign h)))
    (kept_quiet R (id_of h) s false here) (kept_quiet R (id_of h) s false here)

-- ---- its timer

pub at_in : (W : World) (s : SessionFields) (id : TransactionId) (e : Entry) (checks : ℕ) → s.stage ≡ Known → session_id s ≡ id → entry_of W id ≡ Some e →
    e.phase ≡ Awaiting checks → at_of W s ≡ At_awaiting checks
at_in W s id e checks known name here phase =
    ap (λ (stage : Stage). at_stage stage (entry_of W (session_id s))) known ∙ ap (λ (n : TransactionId). at_entry (entry_of W n)) name ∙ ap at_entry here
    ∙ ap at_phase phase

pub at_is : (R : State) (id : TransactionId) (e : Entry) (eof : Eof) (s : SessionFields) (b : Before R id e eof s) →
    at_of R.world s ≡ At_awaiting b.core.checks
at_is R id e eof s b = at_in R.world s id e b.core.checks b.known (found_name R.sessions id s b.here) b.core.here b.core.phase

-- below the limit nothing is handed on
pub asks_none : (R : State) (s : SessionFields) → s.header.acknowledged ≡ true → Handing.due_events R (Dues.Stage_due s false) ≡ []
asks_none R s mode =
    ap (λ (b : Bool). Handing.where_known s.stage (if b then Check (session_id s) ∷ [] else []))
    (acknowledged_none s.header.acknowledged (at_of R.world s) mode) ∙ none_known s.stage

pub ignored_by : (h : Handler) → is_ignoring h ≡ true → h ≡ handlers.Ignore
ignored_by handlers.Ignore e = refl
ignored_by handlers.Cancel e = absurd cc
ignored_by handlers.Abandon e = absurd cc

pub right_since : (same right : Bool) → same ≡ true → (same && not right) ≡ false → right ≡ true
right_since true true s e = refl
right_since true false s e = absurd cc
right_since false right s e = absurd cc

handler_is : (R : State) (id : TransactionId) (e : Entry) (eof : Eof) (s : SessionFields) → Before R id e eof s →
    Dues.handler_at R.mib s.header.acknowledged (at_of R.world s) ≡ R.mib.nak.at_limit
handler_is R id e eof s b =
    ap (λ (a : Bool). Dues.handler_at R.mib a (at_of R.world s)) b.acknowledged ∙ ap (Dues.handler_at R.mib true) (at_is R id e eof s b)

quiet_ignored : (R L : State) (id : TransactionId) (s : SessionFields) (again : Bool) (condition : ℕ) (checks : Bool) (at : JointPhase) (how : Handler) →
    session_of R id ≡ Some s → L.sessions ≡ R.sessions → how ≡ handlers.Ignore →
    Quiet R.world id s again (run R.world (Handing.where_known s.stage (Handing.limit_events (session_id s) checks how)))
    (Turning.gives_up L s condition how at).sessions
quiet_ignored R L id s again condition checks at how here same ignored =
    let t : SessionFields = record s { timer = restarted L.now } in
    let V = run R.world (Handing.where_known s.stage (Handing.limit_events (session_id s) checks handlers.Ignore)) in
    let world : V ≡ R.world = ap (run R.world) (none_known s.stage) in
    let put : Quiet R.world id s again V (replaced R.sessions t) = put_quiet R id s t again V here world refl refl (λ q. omega arith) in
    subst (λ (h : Handler). Quiet R.world id s again (run R.world (Handing.where_known s.stage (Handing.limit_events (session_id s) checks h)))
    (Turning.gives_up L s condition h at).sessions) (sym ignored)
    (subst (λ (ss : List SessionFields). Quiet R.world id s again V (replaced ss t)) (sym same) put)

abbrev QuietDue : State → ℕ → World → TransactionId → SessionFields → Dues.Due → Type 0
QuietDue R now U id s due =
    Quiet R.world id s (is_asking id due) (run R.world (Handing.due_events (Handing.later now R) due)) (Turning.due_parts (Handing.later now R) U due).sessions

quiet_due : (R : State) (now : ℕ) (U : World) (id : TransactionId) (e : Entry) (eof : Eof) (s : SessionFields) (due : Dues.Due) → AreDistinct R.sessions →
    Before R id e eof s →
    Dues.first_due (Handing.later now R) R.sessions ≡ due → is_same (due_name due) id ≡ true → is_given_up R.mib id due ≡ false → QuietDue R now U id s due
quiet_due R now U id e eof s Dues.Nothing_due d b is same up = kept_quiet R id s false b.here
quiet_due R now U id e eof s (Dues.Alive_due t) d b is same up =
    let L = Handing.later now R in
    let it : s ≡ t = is_it R id s t d b.here (alive_due L R.sessions t is).0 same in
    subst (λ (y : SessionFields). QuietDue R now U id s (Dues.Alive_due y)) it
    (put_quiet R id s (record s { alive_at = L.now }) false R.world b.here refl refl refl (λ q. omega arith))
quiet_due R now U id e eof s (Dues.Stage_due t false) d b is same up =
    let L = Handing.later now R in
    let it : s ≡ t = is_it R id s t d b.here (stage_due L R.sessions t false is).0 same in
    let V = run R.world (Handing.due_events L (Dues.Stage_due s false)) in
    let asks : is_same (session_id s) id ≡ true = ap (λ (y : SessionFields). is_same (session_id y) id) it ∙ same in
    subst (λ (y : SessionFields). QuietDue R now U id s (Dues.Stage_due y false)) it
    (put_quiet R id s (record s { timer = passed L.now s.timer Again }) (is_same (session_id s) id) V b.here
    (ap (run R.world) (asks_none L s b.acknowledged)) refl refl
    (λ q. absurd (both_ways (is_same (session_id s) id) q asks)))
quiet_due R now U id e eof s (Dues.Stage_due t true) d b is same up =
    let L = Handing.later now R in
    let it : s ≡ t = is_it R id s t d b.here (stage_due L R.sessions t true is).0 same in
    let at = at_of R.world s in
    let ignored : R.mib.nak.at_limit ≡ handlers.Ignore =
    ignored_by R.mib.nak.at_limit (right_since (is_same (session_id t) id) (is_ignoring R.mib.nak.at_limit) same up) in
    subst (λ (y : SessionFields). QuietDue R now U id s (Dues.Stage_due y true)) it
    (quiet_ignored R L id s false (Dues.fault_at s.header.acknowledged at) (Handing.makes_checks s.header.acknowledged at) at
    (Dues.handler_at R.mib s.header.acknowledged at) b.here refl
    (handler_is R id e eof s b ∙ ignored))

-- an entry that waits for octets is not over
quiet_finish : (R : State) (now : ℕ) (id : TransactionId) (e : Entry) (eof : Eof) (s : SessionFields) (o : Option SessionFields) → AreDistinct R.sessions →
    Before R id e eof s →
    Dues.first_over R.world R.sessions ≡ o → is_same (session_name o) id ≡ true →
    Quiet R.world id s false (run R.world (Handing.take_of o)) (Turning.finish_parts (Handing.later now R) o).sessions
quiet_finish R now id e eof s None d b is same = kept_quiet R id s false b.here
quiet_finish R now id e eof s (Some t) d b is same =
    let over = first_over_is R.world R.sessions t is in
    let it : s ≡ t = is_it R id s t d b.here over.0 same in
    let waits : Dues.is_over (at_of R.world t) ≡ false =
    ap (λ (y : SessionFields). Dues.is_over (at_of R.world y)) (sym it) ∙ ap Dues.is_over (at_is R id e eof s b) in
    absurd (both_ways (Dues.is_over (at_of R.world t)) waits over.1)

-- ---- a piece of its file

abbrev Pieced : State → Input → TransactionId → Eof → Received → ℕ → Type 0
Pieced R i id eof received count = Goes (Turning.after_input R i).world (Turning.after_input R i).sessions id eof received count false

is_ours_is : (R : State) (h : Header) → Handing.is_ours R h ≡ true → h.destination ≡ R.world.config.entity
is_ours_is R h ours = eqb-true h.destination R.world.config.entity (and_parts (not h.toward_sender) (h.destination == R.world.config.entity) ours).1

piece_comes : (V : World) (ss : List SessionFields) (id : TransactionId) (eof : Eof) (received : Received) (s t : SessionFields) → found ss id ≡ Some t →
    t.stage ≡ Known → t.header.acknowledged ≡ true →
    t.timer.count ≤ s.timer.count → Comes V id eof received → Goes V ss id eof received s.timer.count false
piece_comes V ss id eof received s t here known acknowledged few (Goes_on after awaits kept) = Still after awaits kept t here known acknowledged (λ q. few)
piece_comes V ss id eof received s t here known acknowledged few (Is_over delivered) = Is_done delivered

data_ours : (R : State) (now : ℕ) (h : Header) (piece : FileDataFields) (e : Entry) (eof : Eof) (s : SessionFields) → Before R (id_of h) e eof s →
    Handing.is_ours R h ≡ true →
    piece.offset + length piece.octets ≤ eof.size →
    Pieced R (DataPdu now h piece) (id_of h) eof (keep e.received (piece.offset, piece.octets)) s.timer.count
data_ours R now h piece e eof s b ours within =
    let i = DataPdu now h piece in
    let L = Handing.later now R in
    let id = id_of h in
    let U = run R.world (Handing.handed R i) in
    let rs = replies R.world (Handing.handed R i) in
    let t = Turning.heard_session L U s in
    let is = heard_is L U s in
    let es : Handing.handed R i ≡ DataCame h piece ∷ [] =
    cond-true (Handing.is_ours L h) (Handing.of_session (session_of L id) (DataCame h piece ∷ [])) [] ours
    ∙ ap (λ (o : Option SessionFields). Handing.of_session o (DataCame h piece ∷ [])) b.here
    ∙ ap (λ (stage : Stage). Handing.where_known stage (DataCame h piece ∷ [])) b.known in
    let ss : (Turning.after_input R i).sessions ≡ replaced R.sessions t =
    ap (λ (p : Turning.Parts). p.sessions)
    (cond-true (Handing.is_ours L h) (Turning.data_parts L U rs h piece (session_of L id)) (Turning.keeps L (Turning.quiet (Turning.foreign h))) ours)
    ∙ ap (λ (o : Option SessionFields). (Turning.data_parts L U rs h piece o).sessions) b.here
    ∙ ap (λ (p : Turning.Parts). p.sessions)
    (cond-true (Turning.is_known s.stage) (Turning.takes_piece L U rs h piece s) (Turning.keeps L (Turning.said_word s words.Idle))
    (ap Turning.is_known b.known)) in
    let name : session_id t ≡ id = heard_name L U s ∙ found_name R.sessions id s b.here in
    let here : found (Turning.after_input R i).sessions id ≡ Some t =
    ap (λ (xs : List SessionFields). found xs id) ss ∙ replaced_self R.sessions t id (s, b.here) name in
    piece_comes (Turning.after_input R i).world (Turning.after_input R i).sessions id eof (keep e.received (piece.offset, piece.octets)) s t here
    (is.0 ∙ b.known)
    (ap (λ (x : Header). x.acknowledged) is.1 ∙ b.acknowledged) is.2
    (subst (λ (vs : List Event). Comes (run R.world vs) id eof (keep e.received (piece.offset, piece.octets))) (sym es)
    (comes R.world h eof e piece (is_ours_is R h ours) b.core within))

-- it goes toward the sender, or to another entity
data_foreign : (R : State) (now : ℕ) (h : Header) (piece : FileDataFields) (e : Entry) (eof : Eof) (s : SessionFields) → Before R (id_of h) e eof s →
    Handing.is_ours R h ≡ false →
    Pieced R (DataPdu now h piece) (id_of h) eof e.received s.timer.count
data_foreign R now h piece e eof s b foreign =
    let i = DataPdu now h piece in
    let L = Handing.later now R in
    let id = id_of h in
    let U = run R.world (Handing.handed R i) in
    let rs = replies R.world (Handing.handed R i) in
    let es : Handing.handed R i ≡ [] = cond-false (Handing.is_ours L h) (Handing.of_session (session_of L id) (DataCame h piece ∷ [])) [] foreign in
    let ss : (Turning.after_input R i).sessions ≡ R.sessions =
    ap (λ (p : Turning.Parts). p.sessions)
    (cond-false (Handing.is_ours L h) (Turning.data_parts L U rs h piece (session_of L id)) (Turning.keeps L (Turning.quiet (Turning.foreign h))) foreign) in
    quiet_goes R id e eof s false (Turning.after_input R i).world (Turning.after_input R i).sessions b
    (record {
      world = ap (run R.world) es;
      session = s;
      here = ap (λ (xs : List SessionFields). found xs id) ss ∙ b.here;
      stage = refl;
      header = refl;
      few =
          λ q. omega arith;
    })

-- ---- what touches other transactions

awaits_still : (W V : World) (id : TransactionId) (e : Entry) (eof : Eof) → V.config ≡ W.config → entry_of V id ≡ entry_of W id → EntryAwaits W id e eof →
    EntryAwaits V id e eof
awaits_still W V id e eof config entry a = record {
  checks = a.checks;
  here = entry ∙ a.here;
  phase = a.phase;
  came = a.came;
  within = subst (λ (c : Config). eof.size ≤ bound c e.metadata) (sym config) a.within;
  short = a.short;
}

runs_not : (R : State) (id : TransactionId) (e : Entry) (eof : Eof) (s : SessionFields) → Sound R.world → Before R id e eof s →
    next_runnable R.world.table ≡ Some id → ⊥
runs_not R id e eof s sound b = none_runs R.world id e sound b.core.here (ap is_awaiting b.core.phase)

other_goes : NextIsSound → NextIsPromised → (R : State) (i : Input) (id : TransactionId) (e : Entry) (eof : Eof) (s : SessionFields) (again : Bool) →
    Sound R.world → Before R id e eof s → is_work i ≡ false → is_same (touched R i) id ≡ false →
    Goes (Turning.after_input R i).world (Turning.after_input R i).sessions id eof e.received s.timer.count again
other_goes next_sound promised R i id e eof s again sound b w other =
    let entry = others_keep_entries next_sound promised R i id sound w other in
    Still e (awaits_still R.world (Turning.after_input R i).world id e eof (run_config R.world (Handing.handed R i)) entry b.core) refl s
    (others_stay R i id other ∙ b.here) b.known b.acknowledged (λ q. omega arith)

-- ---- each input

abbrev Stepped : State → Input → TransactionId → Entry → Eof → SessionFields → Type 0
Stepped R i id e eof s = Goes (Turning.after_input R i).world (Turning.after_input R i).sessions id eof (keep_all e.received (piece_in R id i)) s.timer.count
    (asks_again R id i)

-- a PDU of its own, or of another transaction
pdu_goes : NextIsSound → NextIsPromised → (R : State) (i : Input) (h : Header) (id : TransactionId) (e : Entry) (eof : Eof) (s : SessionFields) →
    Sound R.world → Before R id e eof s → is_work i ≡ false → touched R i ≡ id_of h →
    (is_same (id_of h) id ≡ true → Before R (id_of h) e eof s → Quiet R.world (id_of h) s false (Turning.after_input R i).world
    (Turning.after_input R i).sessions) →
    Goes (Turning.after_input R i).world (Turning.after_input R i).sessions id eof e.received s.timer.count false
pdu_goes next_sound promised R i h id e eof s sound b w of quiet = elim (cases_Bool (is_same (id_of h) id)) [
  | inl same ↦
      let it = same_is (id_of h) id same in
      let own : Before R (id_of h) e eof s = subst (λ (n : TransactionId). Before R n e eof s) (sym it) b in
      subst (λ (n : TransactionId). Goes (Turning.after_input R i).world (Turning.after_input R i).sessions n eof e.received s.timer.count false) it
      (quiet_goes R (id_of h) e eof s false (Turning.after_input R i).world (Turning.after_input R i).sessions own (quiet same own))
  | inr other ↦ other_goes next_sound promised R i id e eof s false sound b w (ap (λ (n : TransactionId). is_same n id) of ∙ other)
]

data_goes : NextIsSound → NextIsPromised →
    (R : State) (now : ℕ) (h : Header) (piece : FileDataFields) (id : TransactionId) (e : Entry) (eof : Eof) (s : SessionFields) → Sound R.world →
    Before R id e eof s →
    Within eof.size (piece_in R id (DataPdu now h piece)) → Stepped R (DataPdu now h piece) id e eof s
data_goes next_sound promised R now h piece id e eof s sound b within =
    let i = DataPdu now h piece in
    let p : Piece = (piece.offset, piece.octets) in
    let G : List Piece → Type 0 = λ ps. Goes (Turning.after_input R i).world (Turning.after_input R i).sessions id eof
    (keep_all e.received ps) s.timer.count false in
    let ours = Handing.is_ours R h in
    elim (cases_Bool (is_same (id_of h) id)) [
      | inl same ↦
          let it = same_is (id_of h) id same in
          let own : Before R (id_of h) e eof s = subst (λ (n : TransactionId). Before R n e eof s) (sym it) b in
          elim (cases_Bool ours) [
            | inl mine ↦
                let one : piece_in R id i ≡ p ∷ [] = cond-true (ours && is_same (id_of h) id) (p ∷ []) [] (and_from ours (is_same (id_of h) id) mine same) in
                let fits = (subst (Within eof.size) one within).0 in
                subst G (sym one)
                (subst (λ (n : TransactionId). Goes (Turning.after_input R i).world (Turning.after_input R i).sessions n eof
                (keep e.received p) s.timer.count false) it
                (data_ours R now h piece e eof s own mine fits))
            | inr foreign ↦
                subst G (sym (cond-false (ours && is_same (id_of h) id) (p ∷ []) [] (and_left ours (is_same (id_of h) id) foreign)))
                (subst (λ (n : TransactionId). Goes (Turning.after_input R i).world (Turning.after_input R i).sessions n eof e.received s.timer.count false) it
                (data_foreign R now h piece e eof s own foreign))
          ]
      | inr other ↦
          subst G (sym (cond-false (ours && is_same (id_of h) id) (p ∷ []) [] (and_right ours (is_same (id_of h) id) other)))
          (other_goes next_sound promised R i id e eof s false sound b refl other)
    ]

expire_goes : NextIsSound → NextIsPromised → (R : State) (now : ℕ) (id : TransactionId) (e : Entry) (eof : Eof) (s : SessionFields) → Sound R.world →
    AreDistinct R.sessions → Before R id e eof s →
    breaks_off R id (Expire now) ≡ false → Stepped R (Expire now) id e eof s
expire_goes next_sound promised R now id e eof s sound d b on =
    let i = Expire now in
    let L = Handing.later now R in
    let due = Dues.first_due L L.sessions in
    elim (cases_Bool (is_same (due_name due) id)) [
      | inl same ↦
          quiet_goes R id e eof s (is_asking id due) (Turning.after_input R i).world (Turning.after_input R i).sessions b
          (quiet_due R now (run R.world (Handing.handed R i)) id e eof s due d b refl same on)
      | inr other ↦ other_goes next_sound promised R i id e eof s (is_asking id due) sound b refl other
    ]

finish_goes : NextIsSound → NextIsPromised → (R : State) (now : ℕ) (id : TransactionId) (e : Entry) (eof : Eof) (s : SessionFields) → Sound R.world →
    AreDistinct R.sessions → Before R id e eof s → Stepped R (Finish now) id e eof s
finish_goes next_sound promised R now id e eof s sound d b =
    let i = Finish now in
    let o = Dues.first_over R.world R.sessions in
    elim (cases_Bool (is_same (session_name o) id)) [
      | inl same ↦ quiet_goes R id e eof s false (Turning.after_input R i).world (Turning.after_input R i).sessions b
          (quiet_finish R now id e eof s o d b refl same)
      | inr other ↦ other_goes next_sound promised R i id e eof s false sound b refl other
    ]

pub step : NextIsSound → NextIsPromised → (R : State) (i : Input) (id : TransactionId) (e : Entry) (eof : Eof) (s : SessionFields) → Sound R.world →
    AreDistinct R.sessions → Before R id e eof s → breaks_off R id i ≡ false →
    Within eof.size (piece_in R id i) → Stepped R i id e eof s
step next_sound promised R (MetadataPdu now h m) id e eof s sound d b on within =
    pdu_goes next_sound promised R (MetadataPdu now h m) h id e eof s sound b refl refl (λ same own. quiet_metadata R now h m e eof s own)
step next_sound promised R (DataPdu now h piece) id e eof s sound d b on within = data_goes next_sound promised R now h piece id e eof s sound b within
step next_sound promised R (EofPdu now h other) id e eof s sound d b on within =
    pdu_goes next_sound promised R (EofPdu now h other) h id e eof s sound b refl refl
    (λ same own. quiet_eof R now h other e eof s own (eqb-true other.condition 0 (right_since (is_same (id_of h) id) (other.condition == 0) same on)))
step next_sound promised R (AckPdu now h ack) id e eof s sound d b on within =
    pdu_goes next_sound promised R (AckPdu now h ack) h id e eof s sound b refl refl (λ same own. quiet_ack R now h ack s own.here own.known)
step next_sound promised R (PromptPdu now h prompt) id e eof s sound d b on within =
    pdu_goes next_sound promised R (PromptPdu now h prompt) h id e eof s sound b refl refl (λ same own. quiet_prompt R now h prompt s own.here)
step next_sound promised R (OtherPdu now h) id e eof s sound d b on within =
    pdu_goes next_sound promised R (OtherPdu now h) h id e eof s sound b refl refl (λ same own. quiet_other R now h s own.here)
step next_sound promised R (Expire now) id e eof s sound d b on within = expire_goes next_sound promised R now id e eof s sound d b on
step next_sound promised R (Work now) id e eof s sound d b on within =
    let V = (Turning.after_input R (Work now)).world in
    let entry = work_keeps_others next_sound promised R now id sound (runs_not R id e eof s sound b) in
    Still e (awaits_still R.world V id e eof (run_config R.world (Handing.handed R (Work now))) entry b.core) refl s b.here b.known b.acknowledged
    (λ q. omega arith)
step next_sound promised R (Finish now) id e eof s sound d b on within = finish_goes next_sound promised R now id e eof s sound d b
step next_sound promised R (CancelAsked now n) id e eof s sound d b on within =
    other_goes next_sound promised R (CancelAsked now n) id e eof s false sound b refl on
step next_sound promised R ForgetAsked id e eof s sound d b on within = quiet_goes R id e eof s false R.world R.sessions b (kept_quiet R id s false b.here)
step next_sound promised R (ClockMoved moment) id e eof s sound d b on within =
    quiet_goes R id e eof s false R.world R.sessions b (kept_quiet R id s false b.here)
step next_sound promised R NotTaken id e eof s sound d b on within = quiet_goes R id e eof s false R.world R.sessions b (kept_quiet R id s false b.here)
