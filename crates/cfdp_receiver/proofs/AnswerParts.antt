-- What an answer has.
use Rattle.std.proofs.Common.{◌≡◌, ◌⊎◌, inl, inr, ℕ, ◌+◌, ◌≤◌, true, false, not, ◌&&◌, ◌||◌, ◌==◌, if◌then◌else◌, List, [], length, Option, Some, None, refl, sym, ap, subst, ◌∙◌, arith}
use Rattle.std.proofs.lemmas.Bool.{cond_both, cond-true, or_parts, eqb-true, not-false}
use Rattle.cfdp_status.specs.declared.transaction.TransactionId.{TransactionId}
use Rattle.cfdp_pdus.specs.Values.{MetadataFields, FileDataFields}
use Rattle.cfdp_pdus.specs.declared.header.Header.{Header}
use Rattle.cfdp_pdus.specs.declared.eof.Eof.{Eof}
use Rattle.cfdp_directives.specs.declared.ack.Ack.{Ack}
use Rattle.cfdp_directives.specs.declared.ack.TransactionStatus.{TransactionStatus}
use Rattle.cfdp_directives.specs.declared.ack.TransactionStatus.TheVariants.{Active}
use Rattle.cfdp_directives.specs.declared.prompt.Prompt.{Prompt}
use Rattle.cfdp_directives.specs.declared.prompt.Prompt.TheVariants as prompts
use Rattle.cfdp_sessions.specs.Closed.{remembers}
use Rattle.cfdp_sessions.specs.Sessions.{SessionFields, session_id, found}
use Rattle.cfdp_sessions.specs.code.Sessions.{IsFound}
use Rattle.cfdp_sessions.specs.declared.session.Stage.{Stage}
use Rattle.cfdp_sessions.specs.declared.session.Stage.TheVariants.{Held, Known, Over, Waiting}
use Rattle.cfdp_sessions.proofs.Names.{found_put, found_added}
use Rattle.cfdp_transactions.specs.Entry.{id_of}
use Rattle.cfdp_transactions.specs.declared.reply.Reply.{Reply}
use Rattle.cfdp_transactions.specs.declared.outcome.Outcome.{Outcome}
use Rattle.cfdp_transactions.specs.World.{World, entry_of}
use Rattle.cfdp_transactions.specs.Next.{run, replies}
use Rattle.cfdp_receiver.specs.declared.indication.Became.TheVariants.{Nothing}
use Rattle.cfdp_receiver.specs.declared.indication.Word.{Word}
use Rattle.cfdp_receiver.specs.declared.indication.Word.TheVariants as words
use Rattle.cfdp_receiver.specs.declared.mib.Handler.{Handler}
use Rattle.cfdp_receiver.specs.declared.mib.Handler.TheVariants as handlers
use Rattle.cfdp_receiver.specs.State.{State, AnswerFields, Input, MetadataPdu, DataPdu, EofPdu, AckPdu, PromptPdu, OtherPdu, Expire, Work, Finish, CancelAsked, ForgetAsked, ClockMoved, NotTaken, now_of, session_of, is_closed, JointPhase, At_held, At_receiving, At_awaiting, At_executing, At_over, At_waiting, at_of, session_status, status_of, lacks_room}
use Rattle.cfdp_receiver.specs.Due as Due
use Rattle.cfdp_receiver.specs.Handing as Handing
use Rattle.cfdp_receiver.specs.Turning as Turning
use Rattle.cfdp_receiver.specs.Laws.{FewPdus, FindsNoRoom, AcknowledgedOnce}
use Rattle.cfdp_leases.proofs.Held.{same_itself}

-- where what is answered does not matter
abbrev pub silent : AnswerFields
silent = Turning.quiet Nothing

abbrev Few : AnswerFields → Type 0
Few a = (length a.acks ≤ 1) × (length a.keep_alives + length a.finished ≤ 1)

abbrev FewIn : Turning.Parts → Type 0
FewIn p = Few p.answer

none : (0 ≤ 1) × (0 ≤ 1)
none = (omega arith, omega arith)

one_ack : (h : Header) (condition : ℕ) (status : TransactionStatus) → length (Turning.acked h condition status) ≤ 1
one_ack h condition status = cond_both h.acknowledged _ [] (λ (xs : List (Header × Ack)). length xs ≤ 1) (λ e. omega arith) (λ e. omega arith)

few_metadata_stage : (R : State) (V : World) (rs : List Reply) (h : Header) (m : MetadataFields) (s : SessionFields) (stage : Stage) →
    FewIn (Turning.metadata_stage R V rs h m s stage)
few_metadata_stage R V rs h m s (Held eof) = cond_both h.acknowledged _ _ FewIn (λ _. none) (λ _. none)
few_metadata_stage R V rs h m s Known = none
few_metadata_stage R V rs h m s (Over ending) = none
few_metadata_stage R V rs h m s Waiting = none

few_metadata : (R : State) (V : World) (rs : List Reply) (h : Header) (m : MetadataFields) (s : Option SessionFields) →
    FewIn (Turning.metadata_parts R V rs h m s)
few_metadata R V rs h m None = cond_both (is_closed R (id_of h) || lacks_room R (id_of h)) _ _ FewIn (λ _. none) (λ _. none)
few_metadata R V rs h m (Some s) = few_metadata_stage R V rs h m s s.stage

few_data : (R : State) (V : World) (rs : List Reply) (h : Header) (piece : FileDataFields) (s : Option SessionFields) →
    FewIn (Turning.data_parts R V rs h piece s)
few_data R V rs h piece None = none
few_data R V rs h piece (Some s) = cond_both (Turning.is_known s.stage) _ _ FewIn (λ _. none) (λ _. none)

few_eof_stage : (R : State) (V : World) (rs : List Reply) (h : Header) (eof : Eof) (s : SessionFields) (stage : Stage) →
    FewIn (Turning.eof_stage R V rs h eof s stage)
few_eof_stage R V rs h eof s (Held kept) =
    cond_both (eof.condition == 0) _ _ FewIn (λ _. (one_ack h eof.condition Active, omega arith)) (λ _. (one_ack h eof.condition Active, omega arith))
few_eof_stage R V rs h eof s Known =
    cond_both (not (eof.condition == 0) && Handing.is_list_begun R (id_of h)) _ _ FewIn (λ _. (one_ack h eof.condition Active, omega arith))
    (λ _. (one_ack h eof.condition Active, omega arith))
few_eof_stage R V rs h eof s (Over ending) = (one_ack h eof.condition Active, omega arith)
few_eof_stage R V rs h eof s Waiting = (one_ack h eof.condition Active, omega arith)

few_eof : (R : State) (V : World) (rs : List Reply) (h : Header) (eof : Eof) (s : Option SessionFields) → FewIn (Turning.eof_parts R V rs h eof s)
few_eof R V rs h eof None =
    cond_both (is_closed R (id_of h) || not (eof.condition == 0) || not h.acknowledged) _ _ FewIn
    (λ _. (one_ack h eof.condition (status_of R (id_of h)), omega arith))
    (λ _. cond_both (lacks_room R (id_of h)) _ _ FewIn (λ _. none) (λ _. (one_ack h eof.condition Active, omega arith)))
few_eof R V rs h eof (Some s) = few_eof_stage R V rs h eof s s.stage

few_ack_stage : (R : State) (h : Header) (ack : Ack) (s : SessionFields) (stage : Stage) → FewIn (Turning.ack_stage R h ack s stage)
few_ack_stage R h ack s (Held eof) = none
few_ack_stage R h ack s Known = none
few_ack_stage R h ack s (Over ending) = none
few_ack_stage R h ack s Waiting = cond_both (ack.directive == 5) _ _ FewIn (λ _. none) (λ _. none)

few_ack : (R : State) (h : Header) (ack : Ack) (s : Option SessionFields) → FewIn (Turning.ack_parts R h ack s)
few_ack R h ack None = none
few_ack R h ack (Some s) = few_ack_stage R h ack s s.stage

few_prompted : (R : State) (h : Header) (s : SessionFields) (prompt : Prompt) → Few (Turning.prompted R h s prompt)
few_prompted R h s prompts.Nak = none
few_prompted R h s prompts.KeepAlive = (omega arith, omega arith)

few_prompt : (R : State) (h : Header) (prompt : Prompt) (s : Option SessionFields) → FewIn (Turning.prompt_parts R h prompt s)
few_prompt R h prompt None = none
few_prompt R h prompt (Some s) =
    cond_both (s.header.acknowledged && Turning.takes_prompts (at_of R.world s)) _ _ FewIn (λ _. few_prompted R h s prompt) (λ _. none)

few_repeats : (R : State) (V : World) (s : SessionFields) (at : JointPhase) → Few (Turning.repeats R V s at)
few_repeats R V s At_waiting = (omega arith, omega arith)
few_repeats R V s At_held = cond_both s.header.acknowledged _ _ Few (λ _. none) (λ _. none)
few_repeats R V s At_receiving = cond_both s.header.acknowledged _ _ Few (λ _. none) (λ _. none)
few_repeats R V s (At_awaiting made) = cond_both s.header.acknowledged _ _ Few (λ _. none) (λ _. none)
few_repeats R V s At_executing = cond_both s.header.acknowledged _ _ Few (λ _. none) (λ _. none)
few_repeats R V s At_over = cond_both s.header.acknowledged _ _ Few (λ _. none) (λ _. none)

few_gives_up : (R : State) (s : SessionFields) (condition : ℕ) (how : Handler) (at : JointPhase) → FewIn (Turning.gives_up R s condition how at)
few_gives_up R s condition handlers.Ignore at = none
few_gives_up R s condition handlers.Cancel At_waiting = none
few_gives_up R s condition handlers.Cancel At_held = none
few_gives_up R s condition handlers.Cancel At_receiving = none
few_gives_up R s condition handlers.Cancel (At_awaiting made) = none
few_gives_up R s condition handlers.Cancel At_executing = none
few_gives_up R s condition handlers.Cancel At_over = none
few_gives_up R s condition handlers.Abandon At_waiting = none
few_gives_up R s condition handlers.Abandon At_held = none
few_gives_up R s condition handlers.Abandon At_receiving = none
few_gives_up R s condition handlers.Abandon (At_awaiting made) = none
few_gives_up R s condition handlers.Abandon At_executing = none
few_gives_up R s condition handlers.Abandon At_over = none

few_due : (R : State) (V : World) (due : Due.Due) → FewIn (Turning.due_parts R V due)
few_due R V Due.Nothing_due = none
few_due R V (Due.Alive_due s) = (omega arith, omega arith)
few_due R V (Due.Stage_due s false) = few_repeats R V s (at_of R.world s)
few_due R V (Due.Stage_due s true) = few_gives_up R s _ _ _

few_session : (R : State) (s : SessionFields) (o : Outcome) → FewIn (Turning.finish_session R s o)
few_session R s o =
    cond_both s.is_abandoned _ _ FewIn (λ _. none)
    (λ _. cond_both (not o.send) _ _ FewIn (λ _. none)
    (λ _. cond_both (not s.header.acknowledged) _ _ FewIn (λ _. (omega arith, omega arith)) (λ _. (omega arith, omega arith))))

few_finish : (R : State) (s : Option SessionFields) → FewIn (Turning.finish_parts R s)
few_finish R None = none
few_finish R (Some s) = few_session R s (Turning.outcome_for s (entry_of R.world (session_id s)))

few_cancel_stage : (R : State) (rs : List Reply) (s : SessionFields) (stage : Stage) → FewIn (Turning.cancel_stage R rs s stage)
few_cancel_stage R rs s (Held eof) = none
few_cancel_stage R rs s Known = cond_both (Handing.is_list_begun R (session_id s)) _ _ FewIn (λ _. none) (λ _. none)
few_cancel_stage R rs s (Over ending) = none
few_cancel_stage R rs s Waiting = none

few_cancel : (R : State) (rs : List Reply) (id : TransactionId) (s : Option SessionFields) → FewIn (Turning.cancel_parts R rs id s)
few_cancel R rs id None = none
few_cancel R rs id (Some s) = few_cancel_stage R rs s s.stage

few_of : (R : State) (V : World) (rs : List Reply) (i : Input) → FewIn (Turning.parts_of R V rs i)
few_of R V rs (MetadataPdu now h m) = cond_both (Handing.is_ours R h) _ _ FewIn (λ _. few_metadata R V rs h m (session_of R (id_of h))) (λ _. none)
few_of R V rs (DataPdu now h piece) = cond_both (Handing.is_ours R h) _ _ FewIn (λ _. few_data R V rs h piece (session_of R (id_of h))) (λ _. none)
few_of R V rs (EofPdu now h eof) = cond_both (Handing.is_ours R h) _ _ FewIn (λ _. few_eof R V rs h eof (session_of R (id_of h))) (λ _. none)
few_of R V rs (AckPdu now h ack) = cond_both (Handing.is_ours R h) _ _ FewIn (λ _. few_ack R h ack (session_of R (id_of h))) (λ _. none)
few_of R V rs (PromptPdu now h prompt) = cond_both (Handing.is_ours R h) _ _ FewIn (λ _. few_prompt R h prompt (session_of R (id_of h))) (λ _. none)
few_of R V rs (OtherPdu now h) = cond_both (Handing.is_ours R h) _ _ FewIn (λ _. none) (λ _. none)
few_of R V rs (Expire now) = few_due R V (Due.first_due R R.sessions)
few_of R V rs (Work now) = none
few_of R V rs (Finish now) = few_finish R (Due.first_over R.world R.sessions)
few_of R V rs (CancelAsked now id) = few_cancel R rs id (session_of R id)
few_of R V rs ForgetAsked = none
few_of R V rs (ClockMoved now) = none
few_of R V rs NotTaken = none

pub few_pdus : FewPdus
few_pdus R i = few_of (Handing.later (now_of i) R) (run R.world (Handing.handed R i)) (replies R.world (Handing.handed R i)) i

-- acknowledged once --------------------------------------------------------------------

-- the status that the parts lead to
abbrev status_in : Turning.Parts → TransactionId → TransactionStatus
status_in p id = session_status (found p.sessions id) (remembers p.closed id) p.closed.forgot

abbrev Acked : State → Header → Eof → Turning.Parts → Type 0
Acked R h eof p = (p.answer.acks ≡ Turning.acked h eof.condition (status_in p (id_of h))) ⊎ ((p.answer.acks ≡ []) × FindsNoRoom R h eof)

-- what is active is said to be
acked_active : (R : State) (h : Header) (eof : Eof) (p : Turning.Parts) → p.answer.acks ≡ Turning.acked h eof.condition Active → IsFound p.sessions (id_of h) →
    Acked R h eof p
acked_active R h eof p acks f =
    inl (acks ∙ ap (λ (o : Option SessionFields). Turning.acked h eof.condition
    (session_status o (remembers p.closed (id_of h)) p.closed.forgot)) (sym f.1))

pub heard_name : (R : State) (V : World) (s : SessionFields) → session_id (Turning.heard_session R V s) ≡ session_id s
heard_name R V s = cond_both (Turning.is_news R.world V s) _ s (λ (t : SessionFields). session_id t ≡ session_id s) (λ e. refl) (λ e. refl)

acked_keeps : (R : State) (h : Header) (eof : Eof) (s : SessionFields) (word : Word) → found R.sessions (id_of h) ≡ Some s →
    Acked R h eof (Turning.keeps R (Turning.acks_only h eof Active word))
acked_keeps R h eof s word e = acked_active R h eof (Turning.keeps R (Turning.acks_only h eof Active word)) refl (s, e)

acked_stage : (R : State) (V : World) (rs : List Reply) (h : Header) (eof : Eof) (s : SessionFields) (stage : Stage) → found R.sessions (id_of h) ≡ Some s →
    Acked R h eof (Turning.eof_stage R V rs h eof s stage)
acked_stage R V rs h eof s (Held kept) e =
    let over = Turning.ended_by h eof s in
    let said = Turning.acks_only h eof Active words.Faulted in
    cond_both (eof.condition == 0) (Turning.keeps R (Turning.acks_only h eof Active words.Duplicate)) (Turning.replaces_one R over said) (Acked R h eof)
    (λ _. acked_keeps R h eof s words.Duplicate e)
    (λ _. acked_active R h eof (Turning.replaces_one R over said) refl (found_put R.sessions over s (id_of h) e refl))
acked_stage R V rs h eof s Known e =
    cond_both (not (eof.condition == 0) && Handing.is_list_begun R (id_of h)) (Turning.keeps R (Turning.acks_only h eof Active words.ListBegun))
    (Turning.takes_eof R V rs h eof s) (Acked R h eof) (λ _. acked_keeps R h eof s words.ListBegun e)
    (λ _. acked_active R h eof (Turning.takes_eof R V rs h eof s) refl
    (found_put R.sessions (Turning.heard_session R V s) s (id_of h) e (heard_name R V s)))
acked_stage R V rs h eof s (Over ending) e = acked_keeps R h eof s words.Idle e
acked_stage R V rs h eof s Waiting e = acked_keeps R h eof s words.Idle e

-- it would begin a transaction
record IsFirst (R : State) (h : Header) (eof : Eof) : Type 0 where
  unclosed : is_closed R (id_of h) ≡ false
  faultless : eof.condition ≡ 0

is_first : (R : State) (h : Header) (eof : Eof) → (is_closed R (id_of h) || not (eof.condition == 0) || not h.acknowledged) ≡ false → IsFirst R h eof
is_first R h eof e =
    let both = or_parts (is_closed R (id_of h) || not (eof.condition == 0)) (not h.acknowledged) e in
    let first = or_parts (is_closed R (id_of h)) (not (eof.condition == 0)) both.0 in
    record { unclosed = first.0; faultless = eqb-true eof.condition 0 (not-false (eof.condition == 0) first.1) }

acked_full : (R : State) (h : Header) (eof : Eof) (p q : Turning.Parts) → session_of R (id_of h) ≡ None → IsFirst R h eof → p.answer.acks ≡ [] →
    Acked R h eof q →
    Acked R h eof (if lacks_room R (id_of h) then p else q)
acked_full R h eof p q none new quiet hq =
    cond_both (lacks_room R (id_of h)) p q (Acked R h eof)
    (λ full. inr (quiet, record { none = none; unclosed = new.unclosed; faultless = new.faultless; full = full }))
    (λ free. hq)

acked_eof : (R : State) (V : World) (rs : List Reply) (h : Header) (eof : Eof) (s : Option SessionFields) → session_of R (id_of h) ≡ s →
    Acked R h eof (Turning.eof_parts R V rs h eof s)
acked_eof R V rs h eof None e =
    let new = Turning.begun_session R h (Held eof) in
    let full = Turning.keeps R (Turning.said_of_header h (Turning.no_room_word R)) in
    let holds = Turning.held_first R h eof in
    let kept = Turning.keeps R (Turning.acks_only h eof (status_of R (id_of h)) (Turning.word_without_session R (id_of h))) in
    cond_both (is_closed R (id_of h) || not (eof.condition == 0) || not h.acknowledged) kept (if lacks_room R (id_of h) then full else holds) (Acked R h eof)
    (λ b. inl refl)
    (λ b.
    acked_full R h eof full holds e (is_first R h eof b) refl (acked_active R h eof holds refl (found_added R.sessions new (id_of h) (same_itself (id_of h)))))
acked_eof R V rs h eof (Some s) e = acked_stage R V rs h eof s s.stage e

pub acknowledged_once : AcknowledgedOnce
acknowledged_once R now h eof mode ours =
    let L = Handing.later now R in
    let i = EofPdu now h eof in
    let V = run R.world (Handing.handed R i) in
    let rs = replies R.world (Handing.handed R i) in
    elim (subst (Acked L h eof) (sym (cond-true (Handing.is_ours L h) (Turning.eof_parts L V rs h eof (session_of L (id_of h)))
    (Turning.keeps L (Turning.quiet (Turning.foreign h))) ours))
    (acked_eof L V rs h eof (session_of L (id_of h)) refl)) [
      | inl once ↦ inl once
      | inr none ↦ inr (none.0, record { none = none.1.none; unclosed = none.1.unclosed; faultless = none.1.faultless; full = none.1.full })
    ]
