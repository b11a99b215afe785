-- Turns of a receiver in which the session of a transaction holds an EOF PDU: it holds it until the Metadata PDU comes.
use Rattle.std.specs.Prelude.{if◌then◌else◌, ◌==◌}
use Rattle.std.proofs.Common.{◌≡◌, ◌⊎◌, inl, inr, ℕ, zero, suc, ◌+◌, ◌<◌, ◌≤◌, Bool, true, false, not, ◌&&◌, ◌||◌, List, [], ◌∷◌, map, take, length, Option, Some, None, refl, sym, ap, subst, ◌∙◌, arith}
use Rattle.std.proofs.lemmas.Bool.{cond_both, cond-true, cond-false, cases_Bool, and_from, or_parts, or_from, eq-eqb, lt-ltb, both_ways}
use Rattle.cfdp_status.proofs.Choices.{either_way}
use Rattle.cfdp_status.specs.declared.transaction.TransactionId.{TransactionId}
use Rattle.cfdp_leases.specs.Leases.{is_same}
use Rattle.cfdp_pdus.specs.Values.{MetadataFields, FileDataFields}
use Rattle.cfdp_pdus.specs.declared.eof.Eof.{Eof}
use Rattle.cfdp_pdus.specs.declared.header.Header.{Header}
use Rattle.cfdp_directives.specs.declared.ack.Ack.{Ack}
use Rattle.cfdp_retransmission.specs.Naks.{SegmentRequest, naks_in}
use Rattle.cfdp_retransmission.specs.Timers.{restarted, passed}
use Rattle.cfdp_retransmission.specs.declared.timer.Expiry.TheVariants.{Again, Limit}
use Rattle.cfdp_sessions.specs.Closed.{remembers}
use Rattle.cfdp_sessions.specs.Sessions.{SessionFields, session_id, found, replaced, AreDistinct}
use Rattle.cfdp_sessions.specs.declared.session.Stage.{Stage}
use Rattle.cfdp_sessions.specs.declared.session.Stage.TheVariants.{Held, Known, Over as OverStage, Waiting}
use Rattle.cfdp_sessions.proofs.Names.{found_name, replaced_self, member_found}
use Rattle.cfdp_transactions.specs.Entry.{Entry, id_of}
use Rattle.cfdp_transactions.specs.declared.reply.Reply.{Reply}
use Rattle.cfdp_transactions.specs.Next.{run, replies}
use Rattle.cfdp_transactions.specs.World.{World, entry_of}
use Rattle.cfdp_receiver.specs.declared.indication.Word.TheVariants as words
use Rattle.cfdp_receiver.specs.declared.joint_phase.JointPhase.{JointPhase}
use Rattle.cfdp_receiver.specs.declared.joint_phase.JointPhase.TheVariants.{Held as At_held}
use Rattle.cfdp_receiver.specs.declared.mib.Handler.{Handler}
use Rattle.cfdp_receiver.specs.declared.mib.Handler.TheVariants as handlers
use Rattle.cfdp_receiver.specs.declared.mib.Mib.{Mib}
use Rattle.cfdp_receiver.specs.State.{State, AnswerFields, Input, MetadataPdu, DataPdu, EofPdu, AckPdu, PromptPdu, OtherPdu, Expire, Work, Finish, CancelAsked, ForgetAsked, ClockMoved, NotTaken, session_of, lacks_room, at_of, at_stage, is_full}
use Rattle.cfdp_receiver.specs.Due as Dues
use Rattle.cfdp_receiver.specs.Handing as Handing
use Rattle.cfdp_receiver.specs.Turning as Turning
use Rattle.cfdp_receiver.specs.Turning.{most_nak_requests, after_input, after_all}
use Rattle.cfdp_receiver.specs.Laws.{asks_metadata, due_name, session_name, touched}
use Rattle.cfdp_receiver.proofs.Distinct.{distinct_after}
use Rattle.cfdp_receiver.proofs.SessionsAreKnown.{added_found}
use Rattle.cfdp_receiver.proofs.FinishedSentAtMost.{stage_due, alive_due, first_over_is, is_it}
use Rattle.cfdp_receiver.proofs.NaksAsk.{with_header}
use Rattle.cfdp_receiver.proofs.TurnShapes.{others_stay}
use Rattle.cfdp_progress.specs.Awaiting.{is_ignoring, is_given_up, breaks_off}
use Rattle.cfdp_progress.specs.HeldRounds.{is_eof_held, holds_in, EofHolds, BeginsHeldRound, asks_first, joins_held, comes, StaysHeld}
use Rattle.cfdp_progress.specs.NakRounds.{is_asking, asks_again, IsServed}
use Rattle.cfdp_progress.proofs.Turns.{Quiet, kept_quiet, put_quiet, quiet_prompt, quiet_other, ignored_by, right_since}
use Rattle.cfdp_receiver.proofs.Serving.{full_of}
use Rattle.cfdp_progress.proofs.ClosedAfterLosses.{served_is}
use Rattle.cfdp_leases.proofs.Held.{same_itself}
use Rattle.cfdp_leases.proofs.Admitted.{same_is}

-- ---- a session that holds an EOF PDU

at_held_stage : (stage : Stage) (entry : Option Entry) → is_eof_held stage ≡ true → at_stage stage entry ≡ At_held
at_held_stage (Held eof) entry h = refl
at_held_stage Known entry h = absurd cc
at_held_stage (OverStage ending) entry h = absurd cc
at_held_stage Waiting entry h = absurd cc

at_held : (W : World) (s : SessionFields) → is_eof_held s.stage ≡ true → at_of W s ≡ At_held
at_held W s h = at_held_stage s.stage (entry_of W (session_id s)) h

not_known : (stage : Stage) → is_eof_held stage ≡ true → Turning.is_known stage ≡ false
not_known (Held eof) h = refl
not_known Known h = absurd cc
not_known (OverStage ending) h = absurd cc
not_known Waiting h = absurd cc

-- it stays, but for its timer; nothing is said of the world
abbrev Stays : State → TransactionId → SessionFields → Bool → List SessionFields → Type 0
Stays R id s again ss = Quiet R.world id s again R.world ss

-- ---- PDUs of its own

stays_metadata : (R : State) (now : ℕ) (V : World) (rs : List Reply) (h : Header) (m : MetadataFields) (s : SessionFields) (stage : Stage) →
    session_of R (id_of h) ≡ Some s → is_eof_held stage ≡ true → (h.acknowledged ≡ true → ⊥) →
    Stays R (id_of h) s false (Turning.metadata_stage (Handing.later now R) V rs h m s stage).sessions
stays_metadata R now V rs h m s (Held eof) here k un =
    let L = Handing.later now R in
    cond_both h.acknowledged (Turning.joins L V rs h m) (Turning.keeps L (Turning.said_word s words.Idle))
    (λ (p : Turning.Parts). Stays R (id_of h) s false p.sessions) (λ e. absurd (un e)) (λ e. kept_quiet R (id_of h) s false here)
stays_metadata R now V rs h m s Known here k un = absurd cc
stays_metadata R now V rs h m s (OverStage ending) here k un = absurd cc
stays_metadata R now V rs h m s Waiting here k un = absurd cc

held_metadata : (R : State) (now : ℕ) (h : Header) (m : MetadataFields) (s : SessionFields) → session_of R (id_of h) ≡ Some s → is_eof_held s.stage ≡ true →
    joins_held R (id_of h) (MetadataPdu now h m) ≡ false → Stays R (id_of h) s false (after_input R (MetadataPdu now h m)).sessions
held_metadata R now h m s here held none =
    let i = MetadataPdu now h m in
    let L = Handing.later now R in
    let id = id_of h in
    let V = run R.world (Handing.handed R i) in
    let rs = replies R.world (Handing.handed R i) in
    let there = holds_in (session_of R id) in
    let holds : there ≡ true = ap holds_in here ∙ held in
    let kept = kept_quiet R id s false here in
    cond_both (Handing.is_ours L h) (Turning.metadata_parts L V rs h m (session_of L id)) (Turning.keeps L (Turning.quiet (Turning.foreign h)))
    (λ (p : Turning.Parts). Stays R id s false p.sessions)
    (λ ours. subst (λ (o : Option SessionFields). Stays R id s false (Turning.metadata_parts L V rs h m o).sessions) (sym here)
    (stays_metadata R now V rs h m s s.stage here held (λ mode.
    both_ways (joins_held R id i) none (and_from (Handing.is_ours R h) (is_same id id && (h.acknowledged && there)) ours
    (and_from (is_same id id) (h.acknowledged && there) (same_itself id) (and_from h.acknowledged there mode holds))))))
    (λ foreign. kept)

held_data : (R : State) (now : ℕ) (h : Header) (piece : FileDataFields) (s : SessionFields) → session_of R (id_of h) ≡ Some s → is_eof_held s.stage ≡ true →
    Stays R (id_of h) s false (after_input R (DataPdu now h piece)).sessions
held_data R now h piece s here held =
    let i = DataPdu now h piece in
    let L = Handing.later now R in
    let id = id_of h in
    let V = run R.world (Handing.handed R i) in
    let rs = replies R.world (Handing.handed R i) in
    let kept = kept_quiet R id s false here in
    let P : Turning.Parts → Type 0 = λ p. Stays R id s false p.sessions in
    cond_both (Handing.is_ours L h) (Turning.data_parts L V rs h piece (session_of L id)) (Turning.keeps L (Turning.quiet (Turning.foreign h))) P
    (λ ours. subst (λ (o : Option SessionFields). P (Turning.data_parts L V rs h piece o)) (sym here)
    (cond_both (Turning.is_known s.stage) (Turning.takes_piece L V rs h piece s) (Turning.keeps L (Turning.said_word s words.Idle)) P
    (λ known. absurd (both_ways (Turning.is_known s.stage) (not_known s.stage held) known)) (λ e. kept)))
    (λ foreign. kept)

stays_eof : (R : State) (now : ℕ) (V : World) (rs : List Reply) (h : Header) (other : Eof) (s : SessionFields) (stage : Stage) →
    session_of R (id_of h) ≡ Some s → is_eof_held stage ≡ true → (other.condition == 0) ≡ true →
    Stays R (id_of h) s false (Turning.eof_stage (Handing.later now R) V rs h other s stage).sessions
stays_eof R now V rs h other s (Held eof) here k right =
    cond_both (other.condition == 0) _ _ (λ (p : Turning.Parts). Stays R (id_of h) s false p.sessions)
    (λ e. kept_quiet R (id_of h) s false here) (λ e. absurd (both_ways (other.condition == 0) e right))
stays_eof R now V rs h other s Known here k right = absurd cc
stays_eof R now V rs h other s (OverStage ending) here k right = absurd cc
stays_eof R now V rs h other s Waiting here k right = absurd cc

held_eof : (R : State) (now : ℕ) (h : Header) (other : Eof) (s : SessionFields) → session_of R (id_of h) ≡ Some s → is_eof_held s.stage ≡ true →
    (other.condition == 0) ≡ true → Stays R (id_of h) s false (after_input R (EofPdu now h other)).sessions
held_eof R now h other s here held right =
    let i = EofPdu now h other in
    let L = Handing.later now R in
    let id = id_of h in
    let V = run R.world (Handing.handed R i) in
    let rs = replies R.world (Handing.handed R i) in
    cond_both (Handing.is_ours L h) (Turning.eof_parts L V rs h other (session_of L id)) (Turning.keeps L (Turning.quiet (Turning.foreign h)))
    (λ (p : Turning.Parts). Stays R id s false p.sessions)
    (λ ours. subst (λ (o : Option SessionFields). Stays R id s false (Turning.eof_parts L V rs h other o).sessions) (sym here)
    (stays_eof R now V rs h other s s.stage here held right))
    (λ foreign. kept_quiet R id s false here)

stays_ack : (R : State) (now : ℕ) (h : Header) (ack : Ack) (s : SessionFields) (stage : Stage) → session_of R (id_of h) ≡ Some s → is_eof_held stage ≡ true →
    Stays R (id_of h) s false (Turning.ack_stage (Handing.later now R) h ack s stage).sessions
stays_ack R now h ack s (Held eof) here k = kept_quiet R (id_of h) s false here
stays_ack R now h ack s Known here k = absurd cc
stays_ack R now h ack s (OverStage ending) here k = absurd cc
stays_ack R now h ack s Waiting here k = absurd cc

held_ack : (R : State) (now : ℕ) (h : Header) (ack : Ack) (s : SessionFields) → session_of R (id_of h) ≡ Some s → is_eof_held s.stage ≡ true →
    Stays R (id_of h) s false (after_input R (AckPdu now h ack)).sessions
held_ack R now h ack s here held =
    let L = Handing.later now R in
    let id = id_of h in
    either_way (λ (parts : Turning.Parts). Stays R id s false parts.sessions) (Handing.is_ours L h) (Turning.ack_parts L h ack (session_of L id))
    (Turning.keeps L (Turning.quiet (Turning.foreign h)))
    (subst (λ (o : Option SessionFields). Stays R id s false (Turning.ack_parts L h ack o).sessions) (sym here) (stays_ack R now h ack s s.stage here held))
    (kept_quiet R id s false here)

-- ---- its timer

abbrev StaysDue : State → ℕ → World → TransactionId → SessionFields → Dues.Due → Type 0
StaysDue R now V id s due = Stays R id s (is_asking id due) (Turning.due_parts (Handing.later now R) V due).sessions

handler_is : (R : State) (s : SessionFields) → is_eof_held s.stage ≡ true → Dues.handler_at R.mib s.header.acknowledged (at_of R.world s) ≡ R.mib.nak.at_limit
handler_is R s held = ap (Dues.handler_at R.mib s.header.acknowledged) (at_held R.world s held)

held_due : (R : State) (now : ℕ) (V : World) (id : TransactionId) (s : SessionFields) (due : Dues.Due) → AreDistinct R.sessions →
    session_of R id ≡ Some s → is_eof_held s.stage ≡ true → Dues.first_due (Handing.later now R) R.sessions ≡ due → is_same (due_name due) id ≡ true →
    is_given_up R.mib id due ≡ false → StaysDue R now V id s due
held_due R now V id s Dues.Nothing_due d here held is same up = kept_quiet R id s false here
held_due R now V id s (Dues.Alive_due t) d here held is same up =
    let L = Handing.later now R in
    let it : s ≡ t = is_it R id s t d here (alive_due L R.sessions t is).0 same in
    subst (λ (y : SessionFields). StaysDue R now V id s (Dues.Alive_due y)) it
    (put_quiet R id s (record s { alive_at = L.now }) false R.world here refl refl refl (λ q. omega arith))
held_due R now V id s (Dues.Stage_due t false) d here held is same up =
    let L = Handing.later now R in
    let it : s ≡ t = is_it R id s t d here (stage_due L R.sessions t false is).0 same in
    let asks : is_same (session_id s) id ≡ true = ap (λ (y : SessionFields). is_same (session_id y) id) it ∙ same in
    subst (λ (y : SessionFields). StaysDue R now V id s (Dues.Stage_due y false)) it
    (put_quiet R id s (record s { timer = passed L.now s.timer Again }) (is_same (session_id s) id) R.world here refl refl refl
    (λ q. absurd (both_ways (is_same (session_id s) id) q asks)))
held_due R now V id s (Dues.Stage_due t true) d here held is same up =
    let L = Handing.later now R in
    let it : s ≡ t = is_it R id s t d here (stage_due L R.sessions t true is).0 same in
    let at = at_of R.world s in
    let ignored : Dues.handler_at R.mib s.header.acknowledged at ≡ handlers.Ignore =
    handler_is R s held ∙ ignored_by R.mib.nak.at_limit (right_since (is_same (session_id t) id) (is_ignoring R.mib.nak.at_limit) same up) in
    subst (λ (y : SessionFields). StaysDue R now V id s (Dues.Stage_due y true)) it
    (subst (λ (how : Handler). Stays R id s false (Turning.gives_up L s (Dues.fault_at s.header.acknowledged at) how at).sessions) (sym ignored)
    (put_quiet R id s (record s { timer = restarted L.now }) false R.world here refl refl refl (λ q. omega arith)))

held_finish : (R : State) (now : ℕ) (id : TransactionId) (s : SessionFields) (o : Option SessionFields) → AreDistinct R.sessions →
    session_of R id ≡ Some s → is_eof_held s.stage ≡ true → Dues.first_over R.world R.sessions ≡ o → is_same (session_name o) id ≡ true →
    Stays R id s false (Turning.finish_parts (Handing.later now R) o).sessions
held_finish R now id s None d here held is same = kept_quiet R id s false here
held_finish R now id s (Some t) d here held is same =
    let over = first_over_is R.world R.sessions t is in
    let it : s ≡ t = is_it R id s t d here over.0 same in
    let waits : Dues.is_over (at_of R.world t) ≡ false =
    ap (λ (y : SessionFields). Dues.is_over (at_of R.world y)) (sym it) ∙ ap Dues.is_over (at_held R.world s held) in
    absurd (both_ways (Dues.is_over (at_of R.world t)) waits over.1)

-- ---- each input

stays_other : (R : State) (i : Input) (id : TransactionId) (s : SessionFields) (again : Bool) → session_of R id ≡ Some s → is_same (touched R i) id ≡ false →
    Stays R id s again (after_input R i).sessions
stays_other R i id s again here other =
    record { world = refl; session = s; here = others_stay R i id other ∙ here; stage = refl; header = refl; few = λ q. omega arith }

-- a PDU of its own, or of another transaction
stays_pdu : (R : State) (i : Input) (h : Header) (id : TransactionId) (s : SessionFields) → session_of R id ≡ Some s → touched R i ≡ id_of h →
    (is_same (id_of h) id ≡ true → session_of R (id_of h) ≡ Some s → Stays R (id_of h) s false (after_input R i).sessions) →
    Stays R id s false (after_input R i).sessions
stays_pdu R i h id s here of own = elim (cases_Bool (is_same (id_of h) id)) [
  | inl same ↦
      let it = same_is (id_of h) id same in
      subst (λ (n : TransactionId). Stays R n s false (after_input R i).sessions) it
      (own same (subst (λ (n : TransactionId). session_of R n ≡ Some s) (sym it) here))
  | inr other ↦ stays_other R i id s false here (ap (λ (n : TransactionId). is_same n id) of ∙ other)
]

held_step : (R : State) (i : Input) (id : TransactionId) (s : SessionFields) → AreDistinct R.sessions → session_of R id ≡ Some s → is_eof_held s.stage ≡ true →
    breaks_off R id i ≡ false → joins_held R id i ≡ false → Stays R id s (asks_again R id i) (after_input R i).sessions
held_step R (MetadataPdu now h m) id s d here held on none =
    stays_pdu R (MetadataPdu now h m) h id s here refl (λ same own.
    held_metadata R now h m s own held
    (subst (λ (n : TransactionId). joins_held R n (MetadataPdu now h m) ≡ false) (sym (same_is (id_of h) id same)) none))
held_step R (DataPdu now h piece) id s d here held on none =
    stays_pdu R (DataPdu now h piece) h id s here refl (λ same own. held_data R now h piece s own held)
held_step R (EofPdu now h other) id s d here held on none =
    stays_pdu R (EofPdu now h other) h id s here refl (λ same own.
    held_eof R now h other s own held (right_since (is_same (id_of h) id) (other.condition == 0) same on))
held_step R (AckPdu now h ack) id s d here held on none =
    stays_pdu R (AckPdu now h ack) h id s here refl (λ same own. held_ack R now h ack s own held)
held_step R (PromptPdu now h prompt) id s d here held on none =
    stays_pdu R (PromptPdu now h prompt) h id s here refl (λ same own. quiet_prompt R now h prompt s own)
held_step R (OtherPdu now h) id s d here held on none =
    stays_pdu R (OtherPdu now h) h id s here refl (λ same own. quiet_other R now h s own)
held_step R (Expire now) id s d here held on none =
    let L = Handing.later now R in
    let due = Dues.first_due L R.sessions in
    elim (cases_Bool (is_same (due_name due) id)) [
      | inl same ↦ held_due R now (run R.world (Handing.handed R (Expire now))) id s due d here held refl same on
      | inr other ↦ stays_other R (Expire now) id s (is_asking id due) here other
    ]
held_step R (Work now) id s d here held on none = kept_quiet R id s false here
held_step R (Finish now) id s d here held on none =
    let o = Dues.first_over R.world R.sessions in
    elim (cases_Bool (is_same (session_name o) id)) [
      | inl same ↦ held_finish R now id s o d here held refl same
      | inr other ↦ stays_other R (Finish now) id s false here other
    ]
held_step R (CancelAsked now n) id s d here held on none = stays_other R (CancelAsked now n) id s false here on
held_step R ForgetAsked id s d here held on none = kept_quiet R id s false here
held_step R (ClockMoved moment) id s d here held on none = kept_quiet R id s false here
held_step R NotTaken id s d here held on none = kept_quiet R id s false here

-- ---- several inputs

pub record StillHeld (R : State) (id : TransactionId) (count : ℕ) : Type 0 where
  pub session : SessionFields
  pub here : session_of R id ≡ Some session
  pub held : is_eof_held session.stage ≡ true
  pub mode : session.header.acknowledged ≡ true
  pub few : session.timer.count ≤ count

pub stays_held : (R : State) (inputs : List Input) (id : TransactionId) (count : ℕ) → AreDistinct R.sessions → StillHeld R id count →
    StaysHeld R id inputs → comes R id inputs ≡ false → StillHeld (after_all R inputs) id count
stays_held R [] id count d h on none = h
stays_held R (i ∷ is) id count d h on none =
    let no = or_parts (joins_held R id i) (comes (after_input R i) id is) none in
    let now = on.0 (ap holds_in h.here ∙ h.held) in
    let s = h.session in
    let t = held_step R i id s d h.here h.held now.0 no.0 in
    stays_held (after_input R i) is id count (distinct_after R i d)
    (record {
      session = t.session;
      here = t.here;
      held = ap is_eof_held t.stage ∙ h.held;
      mode = ap (λ (x : Header). x.acknowledged) t.header ∙ h.mode;
      few = omega (arith, t.few now.1, h.few);
    }) on.1 no.1

-- ---- the first NAK PDU asks for the Metadata PDU

first_asks : (more most low high : ℕ) (h : Header) (rs : List SegmentRequest) → 0 < more → 1 ≤ most →
    asks_first (map (with_header h) (naks_in more most low high ((0, 0) ∷ rs))) ≡ true
first_asks zero most low high h rs fuel some = absurd (omega (arith, fuel))
first_asks (suc more) zero low high h rs fuel some = absurd (omega (arith, some))
first_asks (suc more) (suc most) low high h rs fuel some = lt-ltb 0 (asks_metadata ((0, 0) ∷ take most rs)) (omega arith)

sequence_asks : (mib : Mib) (h : Header) (low high size : ℕ) → 1 ≤ most_nak_requests mib → asks_first (Turning.sequence mib h low high (Turning.all_of size))
    ≡ true
sequence_asks mib h low high size some =
    let rest : List SegmentRequest = if size == 0 then [] else (0, size) ∷ [] in
    first_asks (1 + length ((0, 0) ∷ rest)) (most_nak_requests mib) low high h rest (omega arith) some

stage_asks : (mib : Mib) (h : Header) (stage : Stage) (entry : Option Entry) → 1 ≤ most_nak_requests mib → is_eof_held stage ≡ true →
    asks_first (Turning.asks_stage mib h 0 stage entry) ≡ true
stage_asks mib h (Held eof) entry some k = sequence_asks mib h 0 eof.size eof.size some
stage_asks mib h Known entry some k = absurd cc
stage_asks mib h (OverStage ending) entry some k = absurd cc
stage_asks mib h Waiting entry some k = absurd cc

-- ---- what begins a round

pub record Opened (R : State) (i : Input) (id : TransactionId) (count : ℕ) : Type 0 where
  pub still : StillHeld (after_input R i) id count
  pub asks : asks_first (Turning.parts R i).answer.naks ≡ true

open_eof : (R : State) (id : TransactionId) (moment : ℕ) (h : Header) (eof : Eof) → 1 ≤ most_nak_requests R.mib → EofHolds R id h eof →
    Opened R (EofPdu moment h eof) id 0
open_eof R id moment h eof some e =
    let i = EofPdu moment h eof in
    let L = Handing.later moment R in
    let V = run R.world (Handing.handed R i) in
    let rs = replies R.world (Handing.handed R i) in
    let new = Turning.begun_session L h (Held eof) in
    let own : session_of L (id_of h) ≡ None = ap (found R.sessions) e.named ∙ e.none in
    let closed = remembers R.closed (id_of h) in
    let fresh : closed ≡ false = ap (remembers R.closed) e.named ∙ e.not_closed in
    let right : not (eof.condition == 0) ≡ false = ap not (eq-eqb eof.condition 0 e.no_error) in
    let mode : not h.acknowledged ≡ false = ap not e.mode in
    let parts : Turning.parts R i ≡ Turning.held_first L h eof =
    cond-true (Handing.is_ours L h) (Turning.eof_parts L V rs h eof (session_of L (id_of h))) (Turning.keeps L (Turning.quiet (Turning.foreign h))) e.ours
    ∙ ap (Turning.eof_parts L V rs h eof) own
    ∙ cond-false (closed || not (eof.condition == 0) || not h.acknowledged) _ _
    (or_from (closed || not (eof.condition == 0)) (not h.acknowledged) (or_from closed (not (eof.condition == 0)) fresh right) mode)
    ∙ cond-false (lacks_room L (id_of h)) (Turning.keeps L (Turning.said_of_header h (Turning.no_room_word L))) (Turning.held_first L h eof)
    (ap (lacks_room R) e.named ∙ e.has_room) in
    record {
      still = record {
        session = new;
        here = ap (λ (p : Turning.Parts). found p.sessions id) parts ∙ added_found R.sessions new id e.named e.none;
        held = refl;
        mode = e.mode;
        few = omega arith;
      };
      asks = ap (λ (p : Turning.Parts). asks_first p.answer.naks) parts ∙ stage_asks R.mib h (Held eof) (entry_of R.world (id_of h)) some refl;
    }

open_expire : (R : State) (id : TransactionId) (moment count : ℕ) → 1 ≤ most_nak_requests R.mib → AreDistinct R.sessions → StillHeld R id count →
    IsServed R id moment false → Opened R (Expire moment) id (count + 1)
open_expire R id moment count some d h served =
    let i = Expire moment in
    let L = Handing.later moment R in
    let s = h.session in
    let it = served_is R id s moment false d h.here served in
    let due : Dues.first_due L R.sessions ≡ Dues.Stage_due s false = served.due ∙ ap (λ (y : SessionFields). Dues.Stage_due y false) (sym it) in
    let V = run R.world (Handing.handed R i) in
    let new : SessionFields = record s { timer = passed L.now s.timer Again } in
    let name = found_name R.sessions id s h.here in
    let ss : (after_input R i).sessions ≡ replaced R.sessions new = ap (λ (x : Dues.Due). (Turning.due_parts L V x).sessions) due in
    let sent : (Turning.parts R i).answer.naks ≡ Turning.asks R.mib V s =
    ap (λ (x : Dues.Due). (Turning.due_parts L V x).answer.naks) due
    ∙ ap (λ (at : JointPhase). (Turning.repeats L V s at).naks) (at_held R.world s h.held)
    ∙ ap (λ (a : AnswerFields). a.naks)
    (cond-true s.header.acknowledged (record (Turning.said_word s words.Expired) { naks = Turning.asks R.mib V s })
    (Turning.said_word s words.Expired) h.mode) in
    record {
      still = record {
        session = new;
        here = ap (λ (xs : List SessionFields). found xs id) ss ∙ replaced_self R.sessions new id (s, h.here) name;
        held = h.held;
        mode = h.mode;
        few = omega (arith, h.few);
      };
      asks = ap asks_first sent ∙ stage_asks R.mib s.header s.stage (entry_of V (session_id s)) some h.held;
    }

-- at its limit it has counted that far
limit_is_full : (R : State) (id : TransactionId) (moment count : ℕ) → AreDistinct R.sessions → StillHeld R id count → IsServed R id moment true →
    R.mib.nak.limit ≤ count + 1
limit_is_full R id moment count d h served =
    let L = Handing.later moment R in
    let s = h.session in
    let it = served_is R id s moment true d h.here served in
    let terms : Dues.terms_at R.mib R.world.config.checks s.header.acknowledged s.timer (at_of R.world s) ≡ Some (R.mib.nak.interval, R.mib.nak.limit) =
    ap (Dues.terms_at R.mib R.world.config.checks s.header.acknowledged s.timer) (at_held R.world s h.held) in
    let reached : Dues.expiry_of L s ≡ Limit = ap (Dues.expiry_of L) it ∙ (stage_due L R.sessions served.session true served.due).1 in
    let full = full_of R.mib.nak.interval R.mib.nak.limit L.now s.timer (sym (ap (Dues.expiry_by L.now s.timer) terms) ∙ reached) in
    omega (arith, full, h.few)

below_by : (R : State) (id : TransactionId) (moment count : ℕ) (limit : Bool) → AreDistinct R.sessions → StillHeld R id count →
    (limit ≡ false) ⊎ (count + 1 < R.mib.nak.limit) → IsServed R id moment limit → IsServed R id moment false
below_by R id moment count false d h room served = served
below_by R id moment count true d h (inl low) served = absurd cc
below_by R id moment count true d h (inr room) served = absurd (omega (arith, room, limit_is_full R id moment count d h served))

-- of a session that holds the EOF PDU
pub opened_again : (R : State) (id : TransactionId) (i : Input) (limit : Bool) (count : ℕ) → 1 ≤ most_nak_requests R.mib → AreDistinct R.sessions →
    StillHeld R id count → (limit ≡ false) ⊎ (count + 1 < R.mib.nak.limit) → BeginsHeldRound R id limit i → Opened R i id (count + 1)
opened_again R id (Expire moment) limit count some d h room begins = open_expire R id moment count some d h (below_by R id moment count limit d h room begins)
opened_again R id (EofPdu moment header eof) limit count some d h room begins =
    let never : None ≡ Some h.session = sym begins.none ∙ h.here in
    absurd cc
opened_again R id (MetadataPdu moment header m) limit count some d h room begins = elim begins [ ]
opened_again R id (DataPdu moment header piece) limit count some d h room begins = elim begins [ ]
opened_again R id (AckPdu moment header ack) limit count some d h room begins = elim begins [ ]
opened_again R id (PromptPdu moment header prompt) limit count some d h room begins = elim begins [ ]
opened_again R id (OtherPdu moment header) limit count some d h room begins = elim begins [ ]
opened_again R id (Work moment) limit count some d h room begins = elim begins [ ]
opened_again R id (Finish moment) limit count some d h room begins = elim begins [ ]
opened_again R id (CancelAsked moment n) limit count some d h room begins = elim begins [ ]
opened_again R id ForgetAsked limit count some d h room begins = elim begins [ ]
opened_again R id (ClockMoved moment) limit count some d h room begins = elim begins [ ]
opened_again R id NotTaken limit count some d h room begins = elim begins [ ]

-- where there is no session, no timer of it is served
not_served : (R : State) (id : TransactionId) (moment : ℕ) (limit : Bool) → AreDistinct R.sessions → session_of R id ≡ None → IsServed R id moment limit → ⊥
not_served R id moment limit d none served =
    let L = Handing.later moment R in
    let t = served.session in
    let here : found R.sessions (session_id t) ≡ Some t = member_found R.sessions t d (stage_due L R.sessions t limit served.due).0 in
    let never : None ≡ Some t = sym none ∙ ap (found R.sessions) (sym served.named) ∙ here in
    absurd cc

pub opened_first : (R : State) (id : TransactionId) (i : Input) (limit : Bool) → 1 ≤ most_nak_requests R.mib → AreDistinct R.sessions → session_of R id ≡ None →
    BeginsHeldRound R id limit i → Opened R i id 0
opened_first R id (EofPdu moment header eof) limit some d none begins = open_eof R id moment header eof some begins
opened_first R id (Expire moment) limit some d none begins = absurd (not_served R id moment limit d none begins)
opened_first R id (MetadataPdu moment header m) limit some d none begins = elim begins [ ]
opened_first R id (DataPdu moment header piece) limit some d none begins = elim begins [ ]
opened_first R id (AckPdu moment header ack) limit some d none begins = elim begins [ ]
opened_first R id (PromptPdu moment header prompt) limit some d none begins = elim begins [ ]
opened_first R id (OtherPdu moment header) limit some d none begins = elim begins [ ]
opened_first R id (Work moment) limit some d none begins = elim begins [ ]
opened_first R id (Finish moment) limit some d none begins = elim begins [ ]
opened_first R id (CancelAsked moment n) limit some d none begins = elim begins [ ]
opened_first R id ForgetAsked limit some d none begins = elim begins [ ]
opened_first R id (ClockMoved moment) limit some d none begins = elim begins [ ]
opened_first R id NotTaken limit some d none begins = elim begins [ ]
