-- Timers at their limits: what is done, and what is said of it.
use Rattle.std.proofs.Common.{◌≡◌, ℕ, ◌<◌, Bool, true, false, List, [], ◌∷◌, Option, Some, None, refl, sym, ap, ◌∙◌, arith}
use Rattle.cfdp_status.specs.declared.transaction.TransactionId.{TransactionId}
use Rattle.cfdp_sessions.specs.Closed.{ClosedFields}
use Rattle.cfdp_sessions.specs.Sessions.{SessionFields, session_id}
use Rattle.cfdp_sessions.specs.declared.session.Stage.{Stage}
use Rattle.cfdp_sessions.specs.declared.session.Stage.TheVariants.{Held, Known, Over, Waiting}
use Rattle.cfdp_transactions.specs.declared.event.Event.{Event}
use Rattle.cfdp_transactions.specs.declared.event.Event.TheVariants.{Cancel as CancelCame, Check as CheckCame}
use Rattle.cfdp_transactions.specs.declared.phase.Phase.{Phase}
use Rattle.cfdp_transactions.specs.declared.phase.Phase.TheVariants as phases
use Rattle.cfdp_transactions.specs.declared.reply.Reply.{Reply}
use Rattle.cfdp_transactions.specs.Entry.{Entry}
use Rattle.cfdp_transactions.specs.World.{World, entry_of}
use Rattle.cfdp_transactions.specs.Next.{next, run}
use Rattle.cfdp_receiver.specs.declared.indication.Became.TheVariants.{Said}
use Rattle.cfdp_receiver.specs.declared.indication.Indication.TheVariants.{Abandoned, Fault}
use Rattle.cfdp_receiver.specs.declared.indication.Word.{Word}
use Rattle.cfdp_receiver.specs.declared.mib.Handler.{Handler}
use Rattle.cfdp_receiver.specs.declared.mib.Handler.TheVariants as handlers
use Rattle.cfdp_receiver.specs.declared.indication.Word.TheVariants as words
use Rattle.cfdp_receiver.specs.State.{State, Expire, moments, JointPhase, At_held, At_receiving, At_awaiting, At_executing, At_over, At_waiting, at_of, at_stage, at_entry, at_phase}
use Rattle.cfdp_receiver.specs.Due.{Stage_due, fault_at, first_due, handler_at}
use Rattle.cfdp_receiver.specs.Handing.{due_events, limit_events, makes_checks, where_known}
use Rattle.cfdp_receiver.specs.StateMachine.{StateMachineFields, AnswerParts, answer_in, listed}
use Rattle.cfdp_receiver.specs.code.StateMachine.{Turns, silent}
use Rattle.cfdp_receiver.specs.Turning as Turning
use Rattle.cfdp_receiver.proofs.LateTurns.{turns_by}
use Rattle.cfdp_receiver.proofs.Finishing.{waits_entry}

pub fault_small : (acknowledged : Bool) (at : JointPhase) → fault_at acknowledged at < 16
fault_small true At_held = omega arith
fault_small true At_receiving = omega arith
fault_small true (At_awaiting made) = omega arith
fault_small true At_executing = omega arith
fault_small true At_over = omega arith
fault_small true At_waiting = omega arith
fault_small false At_held = omega arith
fault_small false At_receiving = omega arith
fault_small false (At_awaiting made) = omega arith
fault_small false At_executing = omega arith
fault_small false At_over = omega arith
fault_small false At_waiting = omega arith

abbrev pub with_lists : StateMachineFields → World → List SessionFields → ClosedFields → StateMachineFields
with_lists M V ss closed = record M { state = record M.state { world = V; sessions = ss; closed = closed } }

-- what is handed on at the limit of a session's timer
abbrev pub given_up : SessionFields → JointPhase → Handler → List Event
given_up s at how = where_known s.stage (limit_events (session_id s) (makes_checks s.header.acknowledged at) how)

pub limit_turns : (M N : StateMachineFields) (a : AnswerParts) (s : SessionFields) (at : JointPhase) (condition : ℕ) (how : Handler)
    (V : World) (ss : List SessionFields) (closed : ClosedFields) →
    first_due M.state M.state.sessions ≡ Stage_due s true → at ≡ at_of M.state.world s → condition ≡ fault_at s.header.acknowledged at →
    handler_at M.state.mib s.header.acknowledged at ≡ how → N ≡ with_lists M V ss closed → V ≡ run M.state.world (given_up s at how) →
    ss ≡ (Turning.gives_up M.state s condition how at).sessions → closed ≡ (Turning.gives_up M.state s condition how at).closed →
    answer_in N a ≡ (Turning.gives_up M.state s condition how at).answer → Turns M N a (Expire M.state.now)
limit_turns M N a s at condition how V ss closed due here cause handler is world sessions names answer =
    let R = M.state in
    let ack = s.header.acknowledged in
    turns_by M N a (Expire R.now) (given_up s at how) (λ (U : World) (rs : List Reply). Turning.gives_up R s condition how at)
    (
    ap (due_events R) due
    ∙ ap (λ (x : JointPhase). given_up s x (handler_at R.mib ack x)) (sym here)
    ∙ ap (given_up s at) handler
    )
    (λ (U : World) (rs : List Reply).
    ap (Turning.due_parts R U) due
    ∙ ap (λ (x : JointPhase). Turning.gives_up R s (fault_at ack x) (handler_at R.mib ack x) x) (sym here)
    ∙ ap (λ (k : ℕ). Turning.gives_up R s k (handler_at R.mib ack at) at) (sym cause)
    ∙ ap (λ (h : Handler). Turning.gives_up R s condition h at) handler)
    (ap (λ (m : StateMachineFields). m.state.world) is ∙ world)
    (ap (λ (m : StateMachineFields). m.state.mib) is)
    (ap (λ (m : StateMachineFields). moments m.state) is)
    (ap (λ (m : StateMachineFields). m.state.sessions) is ∙ sessions)
    (ap (λ (m : StateMachineFields). m.state.closed) is ∙ names)
    answer

-- ---- by how far the transaction is

pub not_held : (phase : Phase) → at_phase phase ≡ At_held → ⊥
not_held phases.Receiving e = absurd cc
not_held (phases.Awaiting made) e = absurd cc
not_held (phases.Executing n) e = absurd cc
not_held phases.Refused e = absurd cc
not_held phases.Done e = absurd cc
not_held (phases.Ended condition) e = absurd cc

entry_not_held : (entry : Option Entry) → at_entry entry ≡ At_held → ⊥
entry_not_held None e = absurd cc
entry_not_held (Some x) e = not_held x.phase e

none_waiting : (stage : Stage) (entry : Option Entry) (es : List Event) → At_waiting ≡ at_stage stage entry → where_known stage es ≡ []
none_waiting (Held eof) entry es e = refl
none_waiting Known entry es e = absurd (waits_entry entry (sym e))
none_waiting (Over ending) entry es e = refl
none_waiting Waiting entry es e = refl

none_held : (stage : Stage) (entry : Option Entry) (es : List Event) → At_held ≡ at_stage stage entry → where_known stage es ≡ []
none_held (Held eof) entry es e = refl
none_held Known entry es e = absurd (entry_not_held entry (sym e))
none_held (Over ending) entry es e = refl
none_held Waiting entry es e = refl

known_awaiting : (stage : Stage) (entry : Option Entry) (made : ℕ) → At_awaiting made ≡ at_stage stage entry → stage ≡ Known
known_awaiting (Held eof) entry made e = absurd cc
known_awaiting Known entry made e = refl
known_awaiting (Over ending) entry made e = absurd cc
known_awaiting Waiting entry made e = absurd cc

-- a session that is not in the core: nothing is handed on
pub unmoved_waiting : (W : World) (s : SessionFields) (how : Handler) → At_waiting ≡ at_of W s → W ≡ run W (given_up s At_waiting how)
unmoved_waiting W s how e = ap (run W) (sym (none_waiting s.stage (entry_of W (session_id s)) _ e))

pub unmoved_held : (W : World) (s : SessionFields) (how : Handler) → At_held ≡ at_of W s → W ≡ run W (given_up s At_held how)
unmoved_held W s how e = ap (run W) (sym (none_held s.stage (entry_of W (session_id s)) _ e))

abandon_events : (id : TransactionId) (checks : Bool) → limit_events id checks handlers.Abandon ≡ CancelCame id ∷ []
abandon_events id true = refl
abandon_events id false = refl

pub moved_abandoned : (W : World) (s : SessionFields) (at : JointPhase) →
    run W (where_known s.stage (CancelCame (session_id s) ∷ [])) ≡ run W (given_up s at handlers.Abandon)
moved_abandoned W s at =
    ap (λ (es : List Event). run W (where_known s.stage es)) (sym (abandon_events (session_id s) (makes_checks s.header.acknowledged at)))

pub moved_cancelled : (W : World) (s : SessionFields) (at : JointPhase) → makes_checks s.header.acknowledged at ≡ false →
    run W (where_known s.stage (CancelCame (session_id s) ∷ [])) ≡ run W (given_up s at handlers.Cancel)
moved_cancelled W s at none = ap (λ (b : Bool). run W (where_known s.stage (limit_events (session_id s) b handlers.Cancel))) (sym none)

pub moved_checked : (W : World) (s : SessionFields) (made : ℕ) → s.header.acknowledged ≡ false → At_awaiting made ≡ at_of W s →
    (next W (CheckCame (session_id s))).0 ≡ run W (given_up s (At_awaiting made) handlers.Cancel)
moved_checked W s made mode e =
    ap (λ (stage : Stage). run W (where_known stage (CheckCame (session_id s) ∷ []))) (sym (known_awaiting s.stage (entry_of W (session_id s)) made e))
    ∙ ap (λ (b : Bool). run W (where_known s.stage (limit_events (session_id s) (makes_checks b (At_awaiting made)) handlers.Cancel))) (sym mode)

checks_none : (at : JointPhase) → makes_checks true at ≡ false
checks_none At_held = refl
checks_none At_receiving = refl
checks_none (At_awaiting made) = refl
checks_none At_executing = refl
checks_none At_over = refl
checks_none At_waiting = refl

pub no_checks : (acknowledged : Bool) (at : JointPhase) → ((made : ℕ) → at ≡ At_awaiting made → ⊥) → makes_checks acknowledged at ≡ false
no_checks true at other = checks_none at
no_checks false At_held other = refl
no_checks false At_receiving other = refl
no_checks false (At_awaiting made) other = absurd (other made refl)
no_checks false At_executing other = refl
no_checks false At_over other = refl
no_checks false At_waiting other = refl

pub acknowledged_none : (acknowledged : Bool) (at : JointPhase) → acknowledged ≡ true → makes_checks acknowledged at ≡ false
acknowledged_none true at e = checks_none at
acknowledged_none false at e = absurd cc

awaiting_not_waiting : (made : ℕ) → At_awaiting made ≡ At_waiting → ⊥
awaiting_not_waiting made e = absurd cc

awaiting_not_held : (made : ℕ) → At_awaiting made ≡ At_held → ⊥
awaiting_not_held made e = absurd cc

pub awaits : (at : JointPhase) (made : ℕ) → at ≡ At_awaiting made → (at ≡ At_waiting → ⊥) × (at ≡ At_held → ⊥)
awaits at made e = (λ w. awaiting_not_waiting made (sym e ∙ w), λ h. awaiting_not_held made (sym e ∙ h))

-- what becomes of the session
pub puts_cancelled : (R : State) (s : SessionFields) (condition : ℕ) (at : JointPhase) → (at ≡ At_waiting → ⊥) → (at ≡ At_held → ⊥) →
    Turning.gives_up R s condition handlers.Cancel at ≡ Turning.replaces_one R (record s { cause = Some condition }) (Turning.said_word s words.Faulted)
puts_cancelled R s condition At_held w h = absurd (h refl)
puts_cancelled R s condition At_receiving w h = refl
puts_cancelled R s condition (At_awaiting made) w h = refl
puts_cancelled R s condition At_executing w h = refl
puts_cancelled R s condition At_over w h = refl
puts_cancelled R s condition At_waiting w h = absurd (w refl)

pub puts_abandoned : (R : State) (s : SessionFields) (condition : ℕ) (at : JointPhase) → (at ≡ At_waiting → ⊥) → (at ≡ At_held → ⊥) →
    Turning.gives_up R s condition handlers.Abandon at ≡ Turning.replaces_one R (record s { is_abandoned = true }) (Turning.abandonment_indicated s condition)
puts_abandoned R s condition At_held w h = absurd (h refl)
puts_abandoned R s condition At_receiving w h = refl
puts_abandoned R s condition (At_awaiting made) w h = refl
puts_abandoned R s condition At_executing w h = refl
puts_abandoned R s condition At_over w h = refl
puts_abandoned R s condition At_waiting w h = absurd (w refl)

-- ---- what is said

pub indicated_word : (N : StateMachineFields) (s : SessionFields) (id : TransactionId) (a : AnswerParts) (word : Word) → id ≡ session_id s → a ≡ silent
    (Said id word) →
    answer_in N a ≡ Turning.said_word s word
indicated_word N s id a word name e = ap (answer_in N) e ∙ ap (λ (x : TransactionId). Turning.quiet (Said x word)) name

pub indicated_abandoned : (N : StateMachineFields) (s : SessionFields) (id : TransactionId) (a b : AnswerParts) (condition : ℕ) →
    id ≡ session_id s → b ≡ silent (Said id words.Faulted) → a ≡ record b { indications = listed (Some (Abandoned id condition)) } →
    answer_in N a ≡ Turning.abandonment_indicated s condition
indicated_abandoned N s id a b condition name word e =
    ap (answer_in N) (e ∙ ap (λ (x : AnswerParts). record x { indications = listed (Some (Abandoned id condition)) }) word)
    ∙ ap (λ (x : TransactionId). record (Turning.quiet (Said x words.Faulted)) { indications = Abandoned x condition ∷ [] }) name

pub indicated_fault : (N : StateMachineFields) (s : SessionFields) (id : TransactionId) (a b : AnswerParts) (condition : ℕ) →
    id ≡ session_id s → b ≡ silent (Said id words.Faulted) → a ≡ record b { indications = listed (Some (Fault id condition)) } →
    answer_in N a ≡ Turning.fault_indicated s condition words.Faulted
indicated_fault N s id a b condition name word e =
    ap (answer_in N) (e ∙ ap (λ (x : AnswerParts). record x { indications = listed (Some (Fault id condition)) }) word)
    ∙ ap (λ (x : TransactionId). record (Turning.quiet (Said x words.Faulted)) { indications = Fault x condition ∷ [] }) name
