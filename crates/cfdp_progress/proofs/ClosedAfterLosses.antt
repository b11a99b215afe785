-- A session that waits for the acknowledgement of its Finished PDU.
use Rattle.std.specs.Prelude.{if◌then◌else◌, ◌==◌, take}
use Rattle.std.specs.List.{AllByRecursion, flat_map, list_any}
use Rattle.std.proofs.Common.{◌≡◌, ◌⊎◌, inl, inr, ℕ, ◌+◌, ◌<◌, ◌≤◌, Bool, true, false, ◌&&◌, List, [], ◌∷◌, ◌++◌, length, Option, Some, None, refl, sym, ap, subst, ◌∙◌, append_assoc, arith}
use Rattle.std.proofs.lemmas.Bool.{cond-true, cond-false, cases_Bool, and_parts, and_left, and_right, or_left, or_from, both_ways}
use Rattle.cfdp_status.proofs.Choices.{either_way}
use Rattle.cfdp_status.specs.declared.transaction.TransactionId.{TransactionId}
use Rattle.cfdp_leases.specs.Leases.{is_same}
use Rattle.cfdp_pdus.specs.Values.{MetadataFields, FileDataFields}
use Rattle.cfdp_pdus.specs.declared.eof.Eof.{Eof}
use Rattle.cfdp_pdus.specs.declared.header.Header.{Header}
use Rattle.cfdp_pdus.specs.Bits.{one_if}
use Rattle.cfdp_directives.specs.declared.ack.Ack.{Ack}
use Rattle.cfdp_directives.specs.declared.prompt.Prompt.{Prompt}
use Rattle.cfdp_retransmission.specs.Timers.{passed}
use Rattle.cfdp_retransmission.specs.declared.timer.Expiry.TheVariants.{Again, Limit}
use Rattle.cfdp_sessions.specs.Closed.{ClosedFields, most_closed, with_closed, remembers}
use Rattle.cfdp_sessions.specs.Sessions.{SessionFields, session_id, found, without_session, AreDistinct}
use Rattle.cfdp_sessions.specs.declared.session.Stage.{Stage}
use Rattle.cfdp_sessions.specs.declared.session.Stage.TheVariants.{Held, Known, Over as OverStage, Waiting}
use Rattle.cfdp_sessions.proofs.ClosedNames.{name_remembered}
use Rattle.cfdp_sessions.proofs.Names.{found_name, replaced_self, gone}
use Rattle.cfdp_transactions.specs.Entry.{id_of}
use Rattle.cfdp_transactions.specs.World.{World}
use Rattle.cfdp_transactions.specs.declared.reply.Reply.{Reply}
use Rattle.cfdp_transactions.specs.Next.{run, replies}
use Rattle.cfdp_receiver.specs.declared.indication.Became.TheVariants as became
use Rattle.cfdp_receiver.specs.declared.indication.Word.TheVariants as words
use Rattle.cfdp_receiver.specs.declared.mib.Mib.{Mib}
use Rattle.cfdp_receiver.specs.State.{State, Input, MetadataPdu, DataPdu, EofPdu, AckPdu, PromptPdu, OtherPdu, Expire, Work, Finish, CancelAsked, ForgetAsked, ClockMoved, NotTaken, session_of, is_closed, at_of}
use Rattle.cfdp_receiver.specs.Due as Dues
use Rattle.cfdp_receiver.specs.Handing as Handing
use Rattle.cfdp_receiver.specs.Turning as Turning
use Rattle.cfdp_receiver.specs.Laws.{due_name, session_name, touched, is_waiting, waits_in}
use Rattle.cfdp_receiver.proofs.Distinct.{distinct_after}
use Rattle.cfdp_receiver.proofs.FinishedSentAtMost.{stage_due, alive_due, first_over_is, is_it, at_waiting, terms_waiting}
use Rattle.cfdp_receiver.proofs.TurnShapes.{others_stay}
use Rattle.cfdp_progress.specs.NakRounds.{IsServed}
use Rattle.cfdp_progress.specs.Closing.{acknowledges, is_acknowledged, is_timer_of, is_sent_again, IsSentOnce, FinishedRound, finished_inputs, AreFinishedRounds, rounds_lost, WasClosed, ClosedAfterLosses}
use Rattle.cfdp_progress.proofs.Runs.{distinct_all, mib_all}
use Rattle.cfdp_receiver.proofs.Serving.{full_of}
use Rattle.cfdp_leases.proofs.Held.{same_itself}
use Rattle.cfdp_leases.proofs.Admitted.{same_is}

-- it is closed, or it stays as it is and the input is no acknowledgement
data TurnsWaiting (R : State) (i : Input) (id : TransactionId) (s : SessionFields) : Type 0 where
  Closes : (none : session_of (Turning.after_input R i) id ≡ None) → (remembered : is_closed (Turning.after_input R i) id ≡ true) → TurnsWaiting R i id s
  Stays : (here : session_of (Turning.after_input R i) id ≡ Some s) → (other : acknowledges R id i ≡ false) → TurnsWaiting R i id s

-- ---- by the input, of its own

abbrev KeepsWaiting : TransactionId → SessionFields → Turning.Parts → Type 0
KeepsWaiting id s p = found p.sessions id ≡ Some s

-- a PDU: by what becomes of it where the session is found
pdu_kept : (R L : State) (h : Header) (s : SessionFields) (parts : Option SessionFields → Turning.Parts) → L.sessions ≡ R.sessions →
    session_of R (id_of h) ≡ Some s → KeepsWaiting (id_of h) s (parts (Some s)) →
    KeepsWaiting (id_of h) s (Turning.where_ours L h (parts (session_of R (id_of h))))
pdu_kept R L h s parts same here kept =
    either_way (KeepsWaiting (id_of h) s) (Handing.is_ours L h) (parts (session_of R (id_of h))) (Turning.keeps L (Turning.quiet (Turning.foreign h)))
    (subst (λ (o : Option SessionFields). KeepsWaiting (id_of h) s (parts o)) (sym here) kept)
    (ap (λ (ss : List SessionFields). found ss (id_of h)) same ∙ here)

kept_metadata : (R L : State) (U : World) (rs : List Reply) (h : Header) (m : MetadataFields) (s : SessionFields) (stage : Stage) →
    L.sessions ≡ R.sessions → session_of R (id_of h) ≡ Some s → stage ≡ Waiting →
    KeepsWaiting (id_of h) s (Turning.metadata_stage L U rs h m s stage)
kept_metadata R L U rs h m s (Held eof) same here w = absurd cc
kept_metadata R L U rs h m s Known same here w = absurd cc
kept_metadata R L U rs h m s (OverStage ending) same here w = absurd cc
kept_metadata R L U rs h m s Waiting same here w = ap (λ (ss : List SessionFields). found ss (id_of h)) same ∙ here

kept_eof : (R L : State) (U : World) (rs : List Reply) (h : Header) (eof : Eof) (s : SessionFields) (stage : Stage) → L.sessions ≡ R.sessions →
    session_of R (id_of h) ≡ Some s → stage ≡ Waiting →
    KeepsWaiting (id_of h) s (Turning.eof_stage L U rs h eof s stage)
kept_eof R L U rs h eof s (Held held) same here w = absurd cc
kept_eof R L U rs h eof s Known same here w = absurd cc
kept_eof R L U rs h eof s (OverStage ending) same here w = absurd cc
kept_eof R L U rs h eof s Waiting same here w = ap (λ (ss : List SessionFields). found ss (id_of h)) same ∙ here

kept_data : (R L : State) (U : World) (rs : List Reply) (h : Header) (piece : FileDataFields) (s : SessionFields) → L.sessions ≡ R.sessions →
    session_of R (id_of h) ≡ Some s → s.stage ≡ Waiting →
    KeepsWaiting (id_of h) s (Turning.data_parts L U rs h piece (Some s))
kept_data R L U rs h piece s same here w =
    subst (KeepsWaiting (id_of h) s) (sym
    (cond-false (Turning.is_known s.stage) (Turning.takes_piece L U rs h piece s) (Turning.keeps L (Turning.said_word s words.Idle)) (ap Turning.is_known w)))
    (ap (λ (ss : List SessionFields). found ss (id_of h)) same ∙ here)

kept_prompt : (R L : State) (h : Header) (prompt : Prompt) (s : SessionFields) → L.sessions ≡ R.sessions → session_of R (id_of h) ≡ Some s →
    s.stage ≡ Waiting → KeepsWaiting (id_of h) s (Turning.prompt_parts L h prompt (Some s))
kept_prompt R L h prompt s same here w =
    let takes = Turning.takes_prompts (at_of L.world s) in
    subst (KeepsWaiting (id_of h) s)
    (sym (cond-false (s.header.acknowledged && takes) (Turning.replaces_one L (Turning.roused L s) (Turning.prompted L h s prompt))
    (Turning.keeps L (Turning.said_of_header h words.Idle)) (and_right s.header.acknowledged takes (ap Turning.takes_prompts (at_waiting L.world s w)))))
    (ap (λ (ss : List SessionFields). found ss (id_of h)) same ∙ here)

-- ---- its acknowledgement

pub remembers_it : (c : ClosedFields) (s : SessionFields) → remembers (with_closed c s) (session_id s) ≡ true
remembers_it c s = name_remembered c (most_closed s.header) s.has_changed (session_id s) (session_id s) (same_itself (session_id s))

own_ack : (R : State) (now : ℕ) (h : Header) (ack : Ack) (s : SessionFields) → AreDistinct R.sessions → session_of R (id_of h) ≡ Some s →
    s.stage ≡ Waiting → TurnsWaiting R (AckPdu now h ack) (id_of h) s
own_ack R now h ack s d here w =
    let i = AckPdu now h ack in
    let L = Handing.later now R in
    let id = id_of h in
    let ours = Handing.is_ours L h in
    let five = ack.directive == 5 in
    let quiet = Turning.keeps L (Turning.quiet (Turning.foreign h)) in
    let idle = Turning.keeps L (Turning.said_of_header h words.Idle) in
    let closing = Turning.closes L s (Turning.said_of_header h words.Acknowledged) in
    let own = Turning.ack_parts L h ack (session_of L id) in
    let staged : own ≡ (if five then closing else idle) = ap (Turning.ack_parts L h ack) here ∙ ap (Turning.ack_stage L h ack s) w in
    elim (cases_Bool ours) [
      | inr foreign ↦ Stays (ap (λ (p : Turning.Parts). found p.sessions id) (cond-false ours own quiet foreign) ∙ here)
          (and_left ours (is_same id id && five) foreign)
      | inl mine ↦ elim (cases_Bool five) [
        | inr other ↦
            Stays (ap (λ (p : Turning.Parts). found p.sessions id) (cond-true ours own quiet mine ∙ staged ∙ cond-false five closing idle other) ∙ here)
            (and_right ours (is_same id id && five) (and_right (is_same id id) five other))
        | inl finished ↦
            let parts : Turning.parts R i ≡ closing = cond-true ours own quiet mine ∙ staged ∙ cond-true five closing idle finished in
            let name = found_name R.sessions id s here in
            Closes (ap (λ (p : Turning.Parts). found p.sessions id) parts ∙ ap (λ (n : TransactionId). found (without_session R.sessions n) id) name
            ∙ gone R.sessions id d)
            (ap (λ (p : Turning.Parts). remembers p.closed id) parts ∙ ap (remembers (with_closed R.closed s)) (sym name)
            ∙ remembers_it R.closed s)
      ]
    ]

-- the user's request to cancel closes it
own_cancel : (R : State) (now : ℕ) (id : TransactionId) (s : SessionFields) → AreDistinct R.sessions → session_of R id ≡ Some s →
    s.stage ≡ Waiting → TurnsWaiting R (CancelAsked now id) id s
own_cancel R now id s d here w =
    let i = CancelAsked now id in
    let L = Handing.later now R in
    let rs = replies R.world (Handing.handed R i) in
    let closing = Turning.closes L s (Turning.said_word s words.Closed) in
    let parts : Turning.parts R i ≡ closing = ap (Turning.cancel_parts L rs id) here ∙ ap (Turning.cancel_stage L rs s) w in
    let name = found_name R.sessions id s here in
    Closes (ap (λ (p : Turning.Parts). found p.sessions id) parts ∙ ap (λ (n : TransactionId). found (without_session R.sessions n) id) name
    ∙ gone R.sessions id d)
    (ap (λ (p : Turning.Parts). remembers p.closed id) parts ∙ ap (remembers (with_closed R.closed s)) (sym name) ∙ remembers_it R.closed s)

-- ---- each input

other_turned : (R : State) (i : Input) (id : TransactionId) (s : SessionFields) → session_of R id ≡ Some s → is_same (touched R i) id ≡ false →
    acknowledges R id i ≡ false → TurnsWaiting R i id s
other_turned R i id s here other none = Stays (others_stay R i id other ∙ here) none

-- a PDU of its own, or of another transaction
pdu_turned : (R : State) (i : Input) (h : Header) (id : TransactionId) (s : SessionFields) → session_of R id ≡ Some s → touched R i ≡ id_of h →
    acknowledges R id i ≡ false →
    (session_of R (id_of h) ≡ Some s → session_of (Turning.after_input R i) (id_of h) ≡ Some s) → TurnsWaiting R i id s
pdu_turned R i h id s here of none own = elim (cases_Bool (is_same (id_of h) id)) [
  | inl same ↦
      let it = same_is (id_of h) id same in
      Stays (subst (λ (n : TransactionId). session_of (Turning.after_input R i) n ≡ Some s) it (own (ap (found R.sessions) it ∙ here))) none
  | inr other ↦ other_turned R i id s here (ap (λ (n : TransactionId). is_same n id) of ∙ other) none
]

not_alive : (R : State) (s : SessionFields) → s.stage ≡ Waiting → Dues.is_alive_due R s ≡ true → ⊥
not_alive R s w due =
    let receiving = Dues.is_receiving_at (at_of R.world s) in
    let both = (and_parts (s.header.acknowledged && receiving) (Dues.has_passed R.mib.keep_alive R.now s.alive_at) due).0 in
    both_ways receiving (ap Dues.is_receiving_at (at_waiting R.world s w)) (and_parts s.header.acknowledged receiving both).1

due_kept : (R : State) (now : ℕ) (U : World) (id : TransactionId) (s : SessionFields) (due : Dues.Due) → AreDistinct R.sessions → session_of R id ≡ Some s →
    s.stage ≡ Waiting → Dues.first_due (Handing.later now R) R.sessions ≡ due →
    is_same (due_name due) id ≡ true → is_timer_of id due ≡ false → KeepsWaiting id s (Turning.due_parts (Handing.later now R) U due)
due_kept R now U id s Dues.Nothing_due d here w is same none = here
due_kept R now U id s (Dues.Alive_due t) d here w is same none =
    let L = Handing.later now R in
    let alive = alive_due L R.sessions t is in
    let it : s ≡ t = is_it R id s t d here alive.0 same in
    absurd (not_alive L t (ap (λ (y : SessionFields). y.stage) (sym it) ∙ w) alive.1)
due_kept R now U id s (Dues.Stage_due t limit) d here w is same none = absurd (both_ways (is_same (session_id t) id) none same)

finish_kept : (R : State) (now : ℕ) (id : TransactionId) (s : SessionFields) (o : Option SessionFields) → AreDistinct R.sessions →
    session_of R id ≡ Some s → s.stage ≡ Waiting → Dues.first_over R.world R.sessions ≡ o →
    is_same (session_name o) id ≡ true → KeepsWaiting id s (Turning.finish_parts (Handing.later now R) o)
finish_kept R now id s None d here w is same = here
finish_kept R now id s (Some t) d here w is same =
    let over = first_over_is R.world R.sessions t is in
    let it : s ≡ t = is_it R id s t d here over.0 same in
    let waiting : Dues.is_over (at_of R.world t) ≡ false = ap Dues.is_over (at_waiting R.world t (ap (λ (y : SessionFields). y.stage) (sym it) ∙ w)) in
    absurd (both_ways (Dues.is_over (at_of R.world t)) waiting over.1)

turn_of : (R : State) (i : Input) (id : TransactionId) (s : SessionFields) → AreDistinct R.sessions → session_of R id ≡ Some s → s.stage ≡ Waiting →
    is_sent_again R id i ≡ false → TurnsWaiting R i id s
turn_of R (MetadataPdu now h m) id s d here w none =
    let i = MetadataPdu now h m in
    let L = Handing.later now R in
    let U = run R.world (Handing.handed R i) in
    let rs = replies R.world (Handing.handed R i) in
    pdu_turned R i h id s here refl refl
    (λ own. pdu_kept R L h s (Turning.metadata_parts L U rs h m) refl own (kept_metadata R L U rs h m s s.stage refl own w))
turn_of R (DataPdu now h piece) id s d here w none =
    let i = DataPdu now h piece in
    let L = Handing.later now R in
    let U = run R.world (Handing.handed R i) in
    let rs = replies R.world (Handing.handed R i) in
    pdu_turned R i h id s here refl refl (λ own. pdu_kept R L h s (Turning.data_parts L U rs h piece) refl own (kept_data R L U rs h piece s refl own w))
turn_of R (EofPdu now h eof) id s d here w none =
    let i = EofPdu now h eof in
    let L = Handing.later now R in
    let U = run R.world (Handing.handed R i) in
    let rs = replies R.world (Handing.handed R i) in
    pdu_turned R i h id s here refl refl (λ own. pdu_kept R L h s (Turning.eof_parts L U rs h eof) refl own (kept_eof R L U rs h eof s s.stage refl own w))
turn_of R (AckPdu now h ack) id s d here w none =
    let i = AckPdu now h ack in
    let five = ack.directive == 5 in
    elim (cases_Bool (is_same (id_of h) id)) [
      | inl same ↦
          let it = same_is (id_of h) id same in
          subst (λ (n : TransactionId). TurnsWaiting R i n s) it (own_ack R now h ack s d (ap (found R.sessions) it ∙ here) w)
      | inr other ↦ other_turned R i id s here other
          (and_right (Handing.is_ours R h) (is_same (id_of h) id && five) (and_left (is_same (id_of h) id) five other))
    ]
turn_of R (PromptPdu now h prompt) id s d here w none =
    let i = PromptPdu now h prompt in
    let L = Handing.later now R in
    pdu_turned R i h id s here refl refl (λ own. pdu_kept R L h s (Turning.prompt_parts L h prompt) refl own (kept_prompt R L h prompt s refl own w))
turn_of R (OtherPdu now h) id s d here w none =
    let i = OtherPdu now h in
    let L = Handing.later now R in
    pdu_turned R i h id s here refl refl (λ own. pdu_kept R L h s (λ o. Turning.keeps L (Turning.quiet became.NotOurs)) refl own own)
turn_of R (Expire now) id s d here w none =
    let L = Handing.later now R in
    let due = Dues.first_due L L.sessions in
    elim (cases_Bool (is_same (due_name due) id)) [
      | inl same ↦ Stays (due_kept R now (run R.world (Handing.handed R (Expire now))) id s due d here w refl same none) refl
      | inr other ↦ other_turned R (Expire now) id s here other refl
    ]
turn_of R (Work now) id s d here w none = Stays here refl
turn_of R (Finish now) id s d here w none =
    let o = Dues.first_over R.world R.sessions in
    elim (cases_Bool (is_same (session_name o) id)) [
      | inl same ↦ Stays (finish_kept R now id s o d here w refl same) refl
      | inr other ↦ other_turned R (Finish now) id s here other refl
    ]
turn_of R (CancelAsked now n) id s d here w none = elim (cases_Bool (is_same n id)) [
  | inl same ↦ subst (λ (m : TransactionId). TurnsWaiting R (CancelAsked now m) id s) (sym (same_is n id same)) (own_cancel R now id s d here w)
  | inr other ↦ other_turned R (CancelAsked now n) id s here other refl
]
turn_of R ForgetAsked id s d here w none = Stays here refl
turn_of R (ClockMoved moment) id s d here w none = Stays here refl
turn_of R NotTaken id s d here w none = Stays here refl

-- ---- several inputs

still_waits : (R : State) (id : TransactionId) (s : SessionFields) → session_of R id ≡ Some s → s.stage ≡ Waiting → waits_in (session_of R id) ≡ true
still_waits R id s here w = ap waits_in here ∙ ap is_waiting w

pub closed_later : (R : State) (i : Input) (is : List Input) (id : TransactionId) → WasClosed (Turning.after_input R i) is id → WasClosed R (i ∷ is) id
closed_later R i is id w =
    record { front = i ∷ w.front; back = w.back; parts = ap (λ (xs : List Input). i ∷ xs) w.parts; gone = w.gone; remembered = w.remembered }

pub closed_after : (R : State) (xs ys : List Input) (id : TransactionId) → WasClosed (Turning.after_all R xs) ys id → WasClosed R (xs ++ ys) id
closed_after R [] ys id w = w
closed_after R (x ∷ xs) ys id w = closed_later R x (xs ++ ys) id (closed_after (Turning.after_input R x) xs ys id w)

pub closed_before : (R : State) (xs ys : List Input) (id : TransactionId) → WasClosed R xs id → WasClosed R (xs ++ ys) id
closed_before R xs ys id w =
    record {
      front = w.front;
      back = w.back ++ ys;
      parts = ap (λ (ws : List Input). ws ++ ys) w.parts ∙ append_assoc w.front w.back ys;
      gone = w.gone;
      remembered =
          w.remembered;
    }

-- closed, or as before and not acknowledged
abbrev pub ClosedOrWaits : State → List Input → TransactionId → SessionFields → Type 0
ClosedOrWaits R inputs id s = WasClosed R inputs id ⊎ ((session_of (Turning.after_all R inputs) id ≡ Some s) × (is_acknowledged R id inputs ≡ false))

pub over : (R : State) (inputs : List Input) (id : TransactionId) (s : SessionFields) → AreDistinct R.sessions → session_of R id ≡ Some s →
    s.stage ≡ Waiting →
    IsSentOnce R id inputs → ClosedOrWaits R inputs id s
over R [] id s d here w none = inr (here, refl)
over R (i ∷ is) id s d here w none = elim (turn_of R i id s d here w (none.0 (still_waits R id s here w))) [
  | Closes no_session remembered ↦ inl (record { front = i ∷ []; back = is; parts = refl; gone = no_session; remembered = remembered })
  | Stays again other ↦ elim (over (Turning.after_input R i) is id s (distinct_after R i d) again w none.1) [
    | inl was ↦ inl (closed_later R i is id was)
    | inr left ↦ inr (left.0, or_from (acknowledges R id i) (is_acknowledged (Turning.after_input R i) id is) other left.1)
  ]
]

-- ---- its timer

pub served_is : (R : State) (id : TransactionId) (s : SessionFields) (moment : ℕ) (limit : Bool) → AreDistinct R.sessions → session_of R id ≡ Some s →
    (served : IsServed R id moment limit) → s ≡ served.session
served_is R id s moment limit d here served =
    let L = Handing.later moment R in
    is_it R id s served.session d here (stage_due L R.sessions served.session limit served.due).0
    (ap (λ (n : TransactionId). is_same n id) served.named ∙ same_itself id)

ack_is_full : (R : State) (id : TransactionId) (s : SessionFields) (moment : ℕ) → AreDistinct R.sessions → session_of R id ≡ Some s → s.stage ≡ Waiting →
    IsServed R id moment true → R.mib.ack.limit ≤ s.timer.count + 1
ack_is_full R id s moment d here w served =
    let L = Handing.later moment R in
    let it = served_is R id s moment true d here served in
    let terms : Dues.terms_at R.mib R.world.config.checks s.header.acknowledged s.timer (at_of R.world s) ≡ Some (R.mib.ack.interval, R.mib.ack.limit) =
    ap (Dues.terms_at R.mib R.world.config.checks s.header.acknowledged s.timer) (at_waiting R.world s w) ∙ terms_waiting R s.header.acknowledged s in
    let reached : Dues.expiry_of L s ≡ Limit = ap (Dues.expiry_of L) it ∙ (stage_due L R.sessions served.session true served.due).1 in
    full_of R.mib.ack.interval R.mib.ack.limit L.now s.timer (sym (ap (Dues.expiry_by L.now s.timer) terms) ∙ reached)

-- below its limit the Finished PDU is sent again
resent : (R : State) (id : TransactionId) (s : SessionFields) (moment : ℕ) → AreDistinct R.sessions → session_of R id ≡ Some s →
    IsServed R id moment false →
    session_of (Turning.after_input R (Expire moment)) id ≡ Some (record s { timer = passed (Handing.later moment R).now s.timer Again })
resent R id s moment d here served =
    let i = Expire moment in
    let L = Handing.later moment R in
    let U = run R.world (Handing.handed R i) in
    let it = served_is R id s moment false d here served in
    let due : Dues.first_due L R.sessions ≡ Dues.Stage_due s false = served.due ∙ ap (λ (y : SessionFields). Dues.Stage_due y false) (sym it) in
    let new : SessionFields = record s { timer = passed L.now s.timer Again } in
    ap (λ (x : Dues.Due). found (Turning.due_parts L U x).sessions id) due ∙ replaced_self R.sessions new id (s, here) (found_name R.sessions id s here)

-- ---- all rounds

abbrev pub AreLow : List FinishedRound → Type 0
AreLow rounds = AllByRecursion (λ round. round.is_at_limit ≡ false) rounds

-- each round begins below the limit; or the limit is above what is lost
abbrev pub IsSafeToSend : ℕ → ℕ → List FinishedRound → Type 0
IsSafeToSend limit count rounds = AreLow rounds ⊎ (count + 1 + rounds_lost rounds < limit)

is_low : (R : State) (id : TransactionId) (s : SessionFields) (round : FinishedRound) (rounds : List FinishedRound) → AreDistinct R.sessions →
    session_of R id ≡ Some s → s.stage ≡ Waiting → IsSafeToSend R.mib.ack.limit s.timer.count (round ∷ rounds) →
    IsServed R id round.moment round.is_at_limit → round.is_at_limit ≡ false
is_low R id s round rounds d here w (inl low) served = low.0
is_low R id s round rounds d here w (inr room) served = elim (cases_Bool round.is_at_limit) [
  | inl limit ↦ absurd (omega (arith, room, ack_is_full R id s round.moment d here w (subst (IsServed R id round.moment) limit served)))
  | inr low ↦ low
]

safe_rest : (limit count : ℕ) (round : FinishedRound) (rounds : List FinishedRound) → IsSafeToSend limit count (round ∷ rounds) → round.is_lost ≡ true →
    IsSafeToSend limit (count + 1) rounds
safe_rest limit count round rounds (inl low) lost = inl low.1
safe_rest limit count round rounds (inr room) lost = inr (omega (arith, room, ap one_if lost))

-- what was not acknowledged was lost
pub is_lost_by : (R : State) (id : TransactionId) (lost : Bool) (rest : List Input) → (lost ≡ false → is_acknowledged R id rest ≡ true) →
    is_acknowledged R id rest ≡ false → lost ≡ true
is_lost_by R id true rest comes none = refl
is_lost_by R id false rest comes none = absurd (both_ways (is_acknowledged R id rest) none (comes refl))

pub rounds_close : (mib : Mib) (R : State) (id : TransactionId) (s : SessionFields) (rounds : List FinishedRound) → R.mib ≡ mib → AreDistinct R.sessions →
    session_of R id ≡ Some s → s.stage ≡ Waiting → AreFinishedRounds R id rounds →
    IsSafeToSend mib.ack.limit s.timer.count rounds → rounds_lost rounds < length rounds → WasClosed R (flat_map finished_inputs rounds) id
rounds_close mib R id s [] same d here w are safe enough = absurd (omega (arith, enough))
rounds_close mib R id s (round ∷ rounds) same d here w are safe enough =
    let i = Expire round.moment in
    let N = Turning.after_input R i in
    let M = Turning.after_all N round.rest in
    let is = are.0 (still_waits R id s here w) in
    let low = is_low R id s round rounds d here w (subst (λ (m : Mib). IsSafeToSend m.ack.limit s.timer.count (round ∷ rounds)) (sym same) safe) is.served in
    let new : SessionFields = record s { timer = passed (Handing.later round.moment R).now s.timer Again } in
    let again : session_of N id ≡ Some new = resent R id s round.moment d here (subst (IsServed R id round.moment) low is.served) in
    let apart = distinct_after R i d in
    elim (over N round.rest id new apart again w is.answered.once) [
      | inl was ↦ closed_before R (finished_inputs round) (flat_map finished_inputs rounds) id (closed_later R i round.rest id was)
      | inr left ↦
          let lost = is_lost_by N id round.is_lost round.rest is.answered.comes left.1 in
          closed_after R (finished_inputs round) (flat_map finished_inputs rounds) id
          (rounds_close mib M id new rounds (mib_all N round.rest ∙ same) (distinct_all N round.rest apart) left.0 w are.1
          (safe_rest mib.ack.limit s.timer.count round rounds safe lost) (omega (arith, enough, ap one_if lost)))
    ]

safe_first : (limit count : ℕ) (lost : Bool) (rounds : List FinishedRound) → AreLow rounds ⊎ (count + one_if lost + rounds_lost rounds < limit) →
    lost ≡ true → IsSafeToSend limit count rounds
safe_first limit count lost rounds (inl low) is = inl low
safe_first limit count lost rounds (inr room) is = inr (omega (arith, room, ap one_if is))

pub closed_after_losses : ClosedAfterLosses
closed_after_losses R id s is_lost rest rounds d here w answered are low enough = elim (over R rest id s d here w answered.once) [
  | inl was ↦ closed_before R rest (flat_map finished_inputs rounds) id was
  | inr left ↦
      let lost = is_lost_by R id is_lost rest answered.comes left.1 in
      closed_after R rest (flat_map finished_inputs rounds) id
      (rounds_close R.mib (Turning.after_all R rest) id s rounds (mib_all R rest) (distinct_all R rest d) left.0 w are
      (safe_first R.mib.ack.limit s.timer.count is_lost rounds low lost) (omega (arith, enough, ap one_if lost)))
]
