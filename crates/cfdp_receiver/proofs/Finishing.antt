-- When a Finished PDU is sent.
use Rattle.std.proofs.Common.{◌≡◌, ◌⊎◌, inl, inr, ℕ, true, false, not, ◌&&◌, ◌||◌, ◌==◌, List, [], ◌∷◌, Option, Some, None, refl}
use Rattle.cfdp_status.proofs.Choices.{either_way}
use Rattle.cfdp_status.specs.declared.transaction.TransactionId.{TransactionId}
use Rattle.cfdp_pdus.specs.Values.{MetadataFields, FileDataFields}
use Rattle.cfdp_pdus.specs.declared.header.Header.{Header}
use Rattle.cfdp_pdus.specs.declared.eof.Eof.{Eof}
use Rattle.cfdp_directives.specs.declared.ack.Ack.{Ack}
use Rattle.cfdp_directives.specs.declared.prompt.Prompt.{Prompt}
use Rattle.cfdp_directives.specs.declared.prompt.Prompt.TheVariants as prompts
use Rattle.cfdp_sessions.specs.Sessions.{SessionFields, session_id}
use Rattle.cfdp_sessions.specs.declared.session.Stage.{Stage}
use Rattle.cfdp_sessions.specs.declared.session.Stage.TheVariants.{Held, Known, Over, Waiting}
use Rattle.cfdp_transactions.specs.Entry.{Entry, id_of}
use Rattle.cfdp_transactions.specs.declared.phase.Phase.{Phase}
use Rattle.cfdp_transactions.specs.declared.phase.Phase.TheVariants.{Receiving, Awaiting, Executing, Refused, Done, Ended}
use Rattle.cfdp_transactions.specs.declared.reply.Reply.{Reply}
use Rattle.cfdp_transactions.specs.declared.outcome.Outcome.{Outcome}
use Rattle.cfdp_transactions.specs.World.{World, entry_of}
use Rattle.cfdp_transactions.specs.Writable.{finished_octets}
use Rattle.cfdp_transactions.specs.Next.{run, replies}
use Rattle.cfdp_receiver.specs.declared.mib.Handler.{Handler}
use Rattle.cfdp_receiver.specs.declared.mib.Handler.TheVariants as handlers
use Rattle.cfdp_receiver.specs.State.{State, AnswerFields, Input, MetadataPdu, DataPdu, EofPdu, AckPdu, PromptPdu, OtherPdu, Expire, Work, Finish, CancelAsked, ForgetAsked, ClockMoved, NotTaken, now_of, session_of, is_closed, JointPhase, At_held, At_receiving, At_awaiting, At_executing, At_over, At_waiting, at_phase, at_entry, at_stage, at_of, lacks_room}
use Rattle.cfdp_receiver.specs.Due as Due
use Rattle.cfdp_receiver.specs.Handing as Handing
use Rattle.cfdp_receiver.specs.Turning as Turning
use Rattle.cfdp_receiver.specs.Laws.{Sent, None_sent, First_sent, Sent_again, FinishedOnly}

abbrev Quiet : Turning.Parts → Type 0
Quiet p = p.answer.finished ≡ []

quiet_metadata_stage : (R : State) (V : World) (rs : List Reply) (h : Header) (m : MetadataFields) (s : SessionFields) (stage : Stage) →
    Quiet (Turning.metadata_stage R V rs h m s stage)
quiet_metadata_stage R V rs h m s (Held eof) = either_way Quiet h.acknowledged _ _ refl refl
quiet_metadata_stage R V rs h m s Known = refl
quiet_metadata_stage R V rs h m s (Over ending) = refl
quiet_metadata_stage R V rs h m s Waiting = refl

quiet_metadata : (R : State) (V : World) (rs : List Reply) (h : Header) (m : MetadataFields) (s : Option SessionFields) →
    Quiet (Turning.metadata_parts R V rs h m s)
quiet_metadata R V rs h m None = either_way Quiet (is_closed R (id_of h) || lacks_room R (id_of h)) _ _ refl refl
quiet_metadata R V rs h m (Some s) = quiet_metadata_stage R V rs h m s s.stage

quiet_data : (R : State) (V : World) (rs : List Reply) (h : Header) (piece : FileDataFields) (s : Option SessionFields) →
    Quiet (Turning.data_parts R V rs h piece s)
quiet_data R V rs h piece None = refl
quiet_data R V rs h piece (Some s) = either_way Quiet (Turning.is_known s.stage) _ _ refl refl

quiet_eof_stage : (R : State) (V : World) (rs : List Reply) (h : Header) (eof : Eof) (s : SessionFields) (stage : Stage) →
    Quiet (Turning.eof_stage R V rs h eof s stage)
quiet_eof_stage R V rs h eof s (Held kept) = either_way Quiet (eof.condition == 0) _ _ refl refl
quiet_eof_stage R V rs h eof s Known = either_way Quiet (not (eof.condition == 0) && Handing.is_list_begun R (id_of h)) _ _ refl refl
quiet_eof_stage R V rs h eof s (Over ending) = refl
quiet_eof_stage R V rs h eof s Waiting = refl

quiet_eof : (R : State) (V : World) (rs : List Reply) (h : Header) (eof : Eof) (s : Option SessionFields) → Quiet (Turning.eof_parts R V rs h eof s)
quiet_eof R V rs h eof None =
    either_way Quiet (is_closed R (id_of h) || not (eof.condition == 0) || not h.acknowledged) _ _ refl
    (either_way Quiet (lacks_room R (id_of h)) _ _ refl refl)
quiet_eof R V rs h eof (Some s) = quiet_eof_stage R V rs h eof s s.stage

quiet_ack_stage : (R : State) (h : Header) (ack : Ack) (s : SessionFields) (stage : Stage) → Quiet (Turning.ack_stage R h ack s stage)
quiet_ack_stage R h ack s (Held eof) = refl
quiet_ack_stage R h ack s Known = refl
quiet_ack_stage R h ack s (Over ending) = refl
quiet_ack_stage R h ack s Waiting = either_way Quiet (ack.directive == 5) _ _ refl refl

quiet_ack : (R : State) (h : Header) (ack : Ack) (s : Option SessionFields) → Quiet (Turning.ack_parts R h ack s)
quiet_ack R h ack None = refl
quiet_ack R h ack (Some s) = quiet_ack_stage R h ack s s.stage

quiet_prompted : (R : State) (h : Header) (s : SessionFields) (prompt : Prompt) → (Turning.prompted R h s prompt).finished ≡ []
quiet_prompted R h s prompts.Nak = refl
quiet_prompted R h s prompts.KeepAlive = refl

quiet_prompt : (R : State) (h : Header) (prompt : Prompt) (s : Option SessionFields) → Quiet (Turning.prompt_parts R h prompt s)
quiet_prompt R h prompt None = refl
quiet_prompt R h prompt (Some s) = either_way Quiet (s.header.acknowledged && Turning.takes_prompts (at_of R.world s)) _ _ (quiet_prompted R h s prompt) refl

quiet_cancel_stage : (R : State) (rs : List Reply) (s : SessionFields) (stage : Stage) → Quiet (Turning.cancel_stage R rs s stage)
quiet_cancel_stage R rs s (Held eof) = refl
quiet_cancel_stage R rs s Known = either_way Quiet (Handing.is_list_begun R (session_id s)) _ _ refl refl
quiet_cancel_stage R rs s (Over ending) = refl
quiet_cancel_stage R rs s Waiting = refl

quiet_cancel : (R : State) (rs : List Reply) (id : TransactionId) (s : Option SessionFields) → Quiet (Turning.cancel_parts R rs id s)
quiet_cancel R rs id None = refl
quiet_cancel R rs id (Some s) = quiet_cancel_stage R rs s s.stage

quiet_gives_up : (R : State) (s : SessionFields) (condition : ℕ) (how : Handler) (at : JointPhase) → Quiet (Turning.gives_up R s condition how at)
quiet_gives_up R s condition handlers.Ignore at = refl
quiet_gives_up R s condition handlers.Cancel At_waiting = refl
quiet_gives_up R s condition handlers.Cancel At_held = refl
quiet_gives_up R s condition handlers.Cancel At_receiving = refl
quiet_gives_up R s condition handlers.Cancel (At_awaiting made) = refl
quiet_gives_up R s condition handlers.Cancel At_executing = refl
quiet_gives_up R s condition handlers.Cancel At_over = refl
quiet_gives_up R s condition handlers.Abandon At_waiting = refl
quiet_gives_up R s condition handlers.Abandon At_held = refl
quiet_gives_up R s condition handlers.Abandon At_receiving = refl
quiet_gives_up R s condition handlers.Abandon (At_awaiting made) = refl
quiet_gives_up R s condition handlers.Abandon At_executing = refl
quiet_gives_up R s condition handlers.Abandon At_over = refl

-- only a session in Waiting is at At_waiting
pub waits_phase : (phase : Phase) → at_phase phase ≡ At_waiting → ⊥
waits_phase Receiving e = absurd cc
waits_phase (Awaiting checks) e = absurd cc
waits_phase (Executing next) e = absurd cc
waits_phase Refused e = absurd cc
waits_phase Done e = absurd cc
waits_phase (Ended condition) e = absurd cc

pub waits_entry : (entry : Option Entry) → at_entry entry ≡ At_waiting → ⊥
waits_entry None e = absurd cc
waits_entry (Some entry) e = waits_phase entry.phase e

waits_stage : (stage : Stage) (entry : Option Entry) → at_stage stage entry ≡ At_waiting → stage ≡ Waiting
waits_stage (Held eof) entry e = absurd cc
waits_stage Known entry e = absurd (waits_entry entry e)
waits_stage (Over ending) entry e = absurd cc
waits_stage Waiting entry e = refl

-- what is sent at an expiry: what a session in Waiting keeps
abbrev Repeated : SessionFields → List (List ℕ) → Type 0
Repeated s sent = (sent ≡ []) ⊎ ((s.stage ≡ Waiting) × (sent ≡ s.finished ∷ []))

repeats_at : (R : State) (V : World) (s : SessionFields) (at : JointPhase) → at_of R.world s ≡ at → Repeated s (Turning.repeats R V s at).finished
repeats_at R V s At_waiting e = inr (waits_stage s.stage (entry_of R.world (session_id s)) e, refl)
repeats_at R V s At_held e = inl (either_way (λ (a : AnswerFields). a.finished ≡ []) s.header.acknowledged _ _ refl refl)
repeats_at R V s At_receiving e = inl (either_way (λ (a : AnswerFields). a.finished ≡ []) s.header.acknowledged _ _ refl refl)
repeats_at R V s (At_awaiting made) e = inl (either_way (λ (a : AnswerFields). a.finished ≡ []) s.header.acknowledged _ _ refl refl)
repeats_at R V s At_executing e = inl (either_way (λ (a : AnswerFields). a.finished ≡ []) s.header.acknowledged _ _ refl refl)
repeats_at R V s At_over e = inl (either_way (λ (a : AnswerFields). a.finished ≡ []) s.header.acknowledged _ _ refl refl)

sent_due : (R : State) (V : World) (now : ℕ) (due : Due.Due) → Due.first_due R R.sessions ≡ due →
    Sent R (Expire now) (Turning.due_parts R V due).answer.finished
sent_due R V now Due.Nothing_due e = None_sent refl
sent_due R V now (Due.Alive_due s) e = None_sent refl
sent_due R V now (Due.Stage_due s false) e = elim (repeats_at R V s (at_of R.world s) refl) [
  | inl quiet ↦ None_sent quiet
  | inr again ↦ Sent_again now s refl e again.0 again.1
]
sent_due R V now (Due.Stage_due s true) e = None_sent (quiet_gives_up R s _ _ _)

-- what is sent of an outcome
abbrev OfOutcome : Outcome → Turning.Parts → Type 0
OfOutcome o p = (p.answer.finished ≡ []) ⊎ (p.answer.finished ≡ finished_octets o ∷ [])

of_outcome : (R : State) (s : SessionFields) (o : Outcome) → OfOutcome o (Turning.finish_session R s o)
of_outcome R s o =
    either_way (OfOutcome o) s.is_abandoned _ _ (inl refl) (either_way (OfOutcome o) (not o.send) _ _ (inl refl)
    (either_way (OfOutcome o) (not s.header.acknowledged) _ _ (inr refl) (inr refl)))

sent_finish : (R : State) (now : ℕ) (s : Option SessionFields) → Due.first_over R.world R.sessions ≡ s →
    Sent R (Finish now) (Turning.finish_parts R s).answer.finished
sent_finish R now None e = None_sent refl
sent_finish R now (Some s) e = elim (of_outcome R s (Turning.outcome_for s (entry_of R.world (session_id s)))) [
  | inl quiet ↦ None_sent quiet
  | inr sent ↦ First_sent now s refl e sent
]

sent_of : (R : State) (V : World) (rs : List Reply) (i : Input) → Sent R i (Turning.parts_of R V rs i).answer.finished
sent_of R V rs (MetadataPdu now h m) = None_sent (either_way Quiet (Handing.is_ours R h) _ _ (quiet_metadata R V rs h m (session_of R (id_of h))) refl)
sent_of R V rs (DataPdu now h piece) = None_sent (either_way Quiet (Handing.is_ours R h) _ _ (quiet_data R V rs h piece (session_of R (id_of h))) refl)
sent_of R V rs (EofPdu now h eof) = None_sent (either_way Quiet (Handing.is_ours R h) _ _ (quiet_eof R V rs h eof (session_of R (id_of h))) refl)
sent_of R V rs (AckPdu now h ack) = None_sent (either_way Quiet (Handing.is_ours R h) _ _ (quiet_ack R h ack (session_of R (id_of h))) refl)
sent_of R V rs (PromptPdu now h prompt) = None_sent (either_way Quiet (Handing.is_ours R h) _ _ (quiet_prompt R h prompt (session_of R (id_of h))) refl)
sent_of R V rs (OtherPdu now h) = None_sent (either_way Quiet (Handing.is_ours R h) _ _ refl refl)
sent_of R V rs (Expire now) = sent_due R V now (Due.first_due R R.sessions) refl
sent_of R V rs (Work now) = None_sent refl
sent_of R V rs (Finish now) = sent_finish R now (Due.first_over R.world R.sessions) refl
sent_of R V rs (CancelAsked now id) = None_sent (quiet_cancel R rs id (session_of R id))
sent_of R V rs ForgetAsked = None_sent refl
sent_of R V rs (ClockMoved now) = None_sent refl
sent_of R V rs NotTaken = None_sent refl

pub finished_only : FinishedOnly
finished_only R i = sent_of (Handing.later (now_of i) R) (run R.world (Handing.handed R i)) (replies R.world (Handing.handed R i)) i
