-- What is over: which session, its outcome, and the turn that takes it.
use Rattle.std.proofs.Common.{◌≡◌, ◌⊎◌, inl, inr, ℕ, suc, List, [], ◌∷◌, drop, true, false, not, Option, Some, None, refl, sym, ap, ◌∙◌}
use Rattle.std.specs.Prelude.{slice_get, is_some, unwrap_or}
use Rattle.std.specs.Option.{option_map}
use Rattle.std.proofs.lemmas.Bool.{cond-true, cond-false, both_ways}
use Rattle.std.proofs.lemmas.Option.{none-some}
use Rattle.cfdp_status.specs.declared.transaction.TransactionId.{TransactionId}
use Rattle.cfdp_pdus.specs.declared.eof.Eof.{Eof}
use Rattle.cfdp_sessions.specs.Sessions.{SessionFields, AreDistinct, session_id, replaced}
use Rattle.cfdp_sessions.specs.declared.session.Ending.{Ending}
use Rattle.cfdp_sessions.specs.declared.session.Stage.{Stage}
use Rattle.cfdp_sessions.specs.declared.session.Stage.TheVariants.{Held, Known, Over, Waiting}
use Rattle.cfdp_sessions.proofs.Names.{member_found, gone, replaced_self}
use Rattle.cfdp_sessions.proofs.Indexes.{found_by_name}
use Rattle.cfdp_transactions.specs.CoreFields.{outcome_when_over, where_any, outcome_in}
use Rattle.cfdp_transactions.specs.Entry.{Entry, is_live}
use Rattle.cfdp_transactions.specs.Needs.{Follows}
use Rattle.cfdp_transactions.specs.Next.{next}
use Rattle.cfdp_transactions.specs.Outcome.{outcome_of}
use Rattle.cfdp_transactions.specs.World.{World, entry_of}
use Rattle.cfdp_transactions.specs.Writable.{finished_octets}
use Rattle.cfdp_transactions.specs.declared.event.Event.{Event}
use Rattle.cfdp_transactions.specs.declared.event.Event.TheVariants.{Take}
use Rattle.cfdp_transactions.specs.declared.outcome.Outcome.{Outcome}
use Rattle.cfdp_transactions.specs.declared.reply.Reply.{Reply}
use Rattle.cfdp_transactions.specs.declared.reply.Reply.TheVariants as Replies
use Rattle.cfdp_transactions.proofs.KeptTable.StepDone.{drop_get}
use Rattle.cfdp_transactions.proofs.Options.{none_of, unless_some}
use Rattle.cfdp_receiver.specs.declared.indication.Became.TheVariants.{Said}
use Rattle.cfdp_receiver.specs.declared.indication.Conclusion.{Conclusion}
use Rattle.cfdp_receiver.specs.declared.indication.Indication.TheVariants as tells
use Rattle.cfdp_receiver.specs.declared.indication.Word.{Word}
use Rattle.cfdp_receiver.specs.declared.indication.Word.TheVariants as words
use Rattle.cfdp_receiver.specs.State.{JointPhase, At_held, At_receiving, At_awaiting, At_executing, At_over, At_waiting}
use Rattle.cfdp_receiver.specs.State.{State, Finish, moments, at_of, at_stage, at_entry}
use Rattle.cfdp_receiver.specs.Due.{first_over, is_over}
use Rattle.cfdp_receiver.specs.Handing.{take_of, where_known}
use Rattle.cfdp_receiver.specs.Laws.{AreKnown, knows}
use Rattle.cfdp_receiver.specs.StateMachine.{StateMachineFields, AnswerParts, answer_in, finished_by}
use Rattle.cfdp_receiver.specs.code.StateMachine.{Concludes, Turns, at_moment, in_world, machine_closed, silent}
use Rattle.cfdp_receiver.specs.Turning as Turning
use Rattle.cfdp_receiver.proofs.CancelAsked.{with_sessions}
use Rattle.cfdp_receiver.proofs.SessionsAreKnown.{phase_over}
use Rattle.cfdp_receiver.proofs.FinishedSentAtMost.{first_over_is}
use Rattle.cfdp_receiver.proofs.LateTurns.{turns_by}
use Rattle.cfdp_receiver.specs.Turning.{is_known}

-- ---- the first session that is over

pub over_at : (W : World) (ss : List SessionFields) (i : ℕ) (s : SessionFields) → slice_get ss i ≡ Some s →
    is_over (at_of W s) ≡ true → first_over W (drop i ss) ≡ Some s
over_at W ss i s e over = ap (first_over W) (drop_get i ss s e) ∙ cond-true (is_over (at_of W s)) (Some s) (first_over W (drop (suc i) ss)) over

pub over_later : (W : World) (ss : List SessionFields) (i : ℕ) (s : SessionFields) → slice_get ss i ≡ Some s → is_over (at_of W s) ≡ false →
    first_over W (drop i ss) ≡ first_over W (drop (suc i) ss)
over_later W ss i s e over = ap (first_over W) (drop_get i ss s e) ∙ cond-false (is_over (at_of W s)) (Some s) (first_over W (drop (suc i) ss)) over

pub not_over : (at : JointPhase) → (at ≡ At_over → ⊥) → is_over at ≡ false
not_over At_held other = refl
not_over At_receiving other = refl
not_over (At_awaiting made) other = refl
not_over At_executing other = refl
not_over At_over other = absurd (other refl)
not_over At_waiting other = refl

-- ---- its outcome

over_outcome : (x : Option Entry) → is_some x ≡ true → is_over (at_entry x) ≡ true → where_any (option_map outcome_when_over x) ≡ None → ⊥
over_outcome None there over none = absurd cc
over_outcome (Some e) there over none =
    absurd (none-some (outcome_of e) (sym none ∙ cond-false (is_live e.phase) None (Some (outcome_of e)) (phase_over e.phase over)))

-- a session that is over, and that the core knows, has an outcome there
pub known_outcome : (R : State) (s : SessionFields) → AreDistinct R.sessions → AreKnown R → first_over R.world R.sessions ≡ Some s →
    s.stage ≡ Known → outcome_in R.world (session_id s) ≡ None → ⊥
known_outcome R s d known first is none =
    let over = first_over_is R.world R.sessions s first in
    let entry = entry_of R.world (session_id s) in
    over_outcome entry
    (known (session_id s) ∙ ap knows (member_found R.sessions s d over.0) ∙ ap is_known is)
    (ap (λ (stage : Stage). is_over (at_stage stage entry)) (sym is) ∙ over.1) none

record Kept (x : Option Entry) (o : Outcome) : Type 0 where
  entry : Entry
  here : x ≡ Some entry
  is : outcome_of entry ≡ o

kept_outcome : (x : Option Entry) (o : Outcome) → where_any (option_map outcome_when_over x) ≡ Some o → Kept x o
kept_outcome None o e = absurd cc
kept_outcome (Some entry) o e = record { entry = entry; here = refl; is = unless_some (is_live entry.phase) (outcome_of entry) o e }

-- the outcome of the core, with the condition code for which this entity cancelled the transaction
abbrev pub caused_outcome : SessionFields → Outcome → Outcome
caused_outcome s o = record o { finished = Turning.caused s.cause o.finished }

abbrev pub with_condition : Outcome → ℕ → Outcome
with_condition o condition = record o { finished = record o.finished { condition = condition } }

caused_by : (o : Outcome) (why : Option ℕ) → with_condition o (unwrap_or why o.finished.condition) ≡ record o { finished = Turning.caused why o.finished }
caused_by o None = refl
caused_by o (Some condition) = refl

-- as the code makes it, of an outcome that is opened
pub caused_is : (s : SessionFields) (made o : Outcome) (why : Option ℕ) (condition : ℕ) → made ≡ o → why ≡ s.cause →
    condition ≡ unwrap_or why made.finished.condition → with_condition made condition ≡ caused_outcome s o
caused_is s made o why condition same cause is =
    ap (with_condition made) is ∙ caused_by made why
    ∙ ap (λ (x : Option ℕ). record made { finished = Turning.caused x made.finished }) cause ∙ ap (caused_outcome s) same

pub follows_indicated : (W : World) (v : Event) (reply : Reply) (V : World) → Follows W v reply V → (reply ≡ Replies.Memory → ⊥) → next W v ≡ (V, reply)
follows_indicated W v Replies.Memory V follows other = absurd (other refl)
follows_indicated W v reply V follows other = follows

-- a session that is over is not held, and does not wait
pub over_stage : (R : State) (s : SessionFields) → first_over R.world R.sessions ≡ Some s → ((eof : Eof) × (s.stage ≡ Held eof)) ⊎ (s.stage ≡ Waiting) → ⊥
over_stage R s first stage =
    let entry = entry_of R.world (session_id s) in
    let over = (first_over_is R.world R.sessions s first).1 in
    elim stage [
      | inl held ↦ both_ways (is_over (at_of R.world s)) (ap (λ (x : Stage). is_over (at_stage x entry)) held.1) over
      | inr waits ↦ both_ways (is_over (at_of R.world s)) (ap (λ (x : Stage). is_over (at_stage x entry)) waits) over
    ]

-- ---- the turn

taken_in : (W : World) (ss : List SessionFields) (s : SessionFields) (stage : Stage) → first_over W ss ≡ Some s → s.stage ≡ stage →
    take_of (first_over W ss) ≡ where_known stage (Take (session_id s) ∷ [])
taken_in W ss s stage first is = ap take_of first ∙ ap (λ (x : Stage). where_known x (Take (session_id s) ∷ [])) is

finished_in : (R : State) (s : SessionFields) (o : Outcome) → first_over R.world R.sessions ≡ Some s →
    Turning.outcome_for s (entry_of R.world (session_id s)) ≡ o → Turning.finish_parts R (first_over R.world R.sessions) ≡ Turning.finish_session R s o
finished_in R s o first outcome = ap (Turning.finish_parts R) first ∙ ap (Turning.finish_session R s) outcome

-- of a transaction that is not in the core
pub finish_over : (M N : StateMachineFields) (a : AnswerParts) (now : ℕ) (s : SessionFields) (ending : Ending) → AreDistinct M.state.sessions → AreKnown M.state
    →
    first_over M.state.world M.state.sessions ≡ Some s → s.stage ≡ Over ending → Concludes (at_moment now M) N a s (Turning.stage_outcome s (Over ending)) →
    Turns (at_moment now M) N a (Finish now)
finish_over M N a now s ending d known first is c =
    let L = at_moment now M in
    let W = M.state.world in
    let here = member_found M.state.sessions s d (first_over_is W M.state.sessions s first).0 in
    let none : entry_of W (session_id s) ≡ None =
    none_of (entry_of W (session_id s)) (known (session_id s) ∙ ap knows here ∙ ap is_known is) in
    let outcome : Turning.outcome_for s (entry_of W (session_id s)) ≡ Turning.stage_outcome s (Over ending) =
    ap (Turning.outcome_for s) none ∙ ap (Turning.stage_outcome s) is in
    turns_by L N a (Finish now) [] (λ (V : World) (rs : List Reply). Turning.finish_session L.state s (Turning.stage_outcome s (Over ending)))
    (taken_in W M.state.sessions s (Over ending) first is)
    (λ (V : World) (rs : List Reply). finished_in L.state s (Turning.stage_outcome s (Over ending)) first outcome)
    c.world c.mib c.now c.sessions c.closed c.answer

-- of one that the core knows
pub finish_taken : (M N : StateMachineFields) (a : AnswerParts) (now : ℕ) (s : SessionFields) (o : Outcome) (V : World) (reply : Reply) →
    first_over M.state.world M.state.sessions ≡ Some s → s.stage ≡ Known → Some o ≡ outcome_in M.state.world (session_id s) →
    next M.state.world (Take (session_id s)) ≡ (V, reply) →
    Concludes (at_moment now (in_world V M)) N a s (caused_outcome s o) → Turns (at_moment now M) N a (Finish now)
finish_taken M N a now s o V reply first is made indicated c =
    let L = at_moment now M in
    let W = M.state.world in
    let kept = kept_outcome (entry_of W (session_id s)) o (sym made) in
    let outcome : Turning.outcome_for s (entry_of W (session_id s)) ≡ caused_outcome s o =
    ap (Turning.outcome_for s) kept.here ∙ ap (caused_outcome s) kept.is in
    turns_by L N a (Finish now) (Take (session_id s) ∷ []) (λ (U : World) (rs : List Reply). Turning.finish_session L.state s (caused_outcome s o))
    (taken_in W M.state.sessions s Known first is)
    (λ (U : World) (rs : List Reply). finished_in L.state s (caused_outcome s o) first outcome)
    (c.world ∙ sym (ap (λ (x : World × Reply). x.0) indicated)) c.mib c.now c.sessions c.closed c.answer

-- ---- what is sent and indicated, by the session and the outcome

abbrev pub ended : TransactionId → Conclusion → Word → AnswerParts
ended id conclusion word = record (silent (Said id word)) { indications = tells.TransactionFinished id conclusion ∷ [] }

abbrev pub ended_and_sent : TransactionId → Conclusion → Word → AnswerParts
ended_and_sent id conclusion word = record (ended id conclusion word) { finished = id ∷ [] }

waits_by : (R : State) (s : SessionFields) (o : Outcome) → s.is_abandoned ≡ false → o.send ≡ true → s.header.acknowledged ≡ true →
    Turning.finish_session R s o ≡ Turning.replaces_one R (Turning.waits_for_ack R s o) (Turning.sends_it s o words.Finished)
waits_by R s o abandoned sent acked =
    cond-false s.is_abandoned _ _ abandoned ∙ cond-false (not o.send) _ _ (ap not sent) ∙ cond-false (not s.header.acknowledged) _ _ (ap not acked)

closes_by : (R : State) (s : SessionFields) (o : Outcome) → s.is_abandoned ≡ false → o.send ≡ true → s.header.acknowledged ≡ false →
    Turning.finish_session R s o ≡ Turning.closes R (Turning.settled s o) (Turning.sends_it s o words.Closed)
closes_by R s o abandoned sent acked =
    cond-false s.is_abandoned _ _ abandoned ∙ cond-false (not o.send) _ _ (ap not sent) ∙ cond-true (not s.header.acknowledged) _ _ (ap not acked)

-- by the parts that the definitions give in this case
concludes_by : (M N : StateMachineFields) (a : AnswerParts) (s : SessionFields) (o : Outcome) (p : Turning.Parts) → Turning.finish_session M.state s o ≡ p →
    N.state.world ≡ M.state.world → N.state.mib ≡ M.state.mib → moments N.state ≡ moments M.state →
    N.state.sessions ≡ p.sessions → N.state.closed ≡ p.closed → answer_in N a ≡ p.answer →
    Concludes M N a s o
concludes_by M N a s o p parts world mib now sessions closed answer = record {
  world = world;
  mib = mib;
  now = now;
  sessions = sessions ∙ ap (λ (q : Turning.Parts). q.sessions) (sym parts);
  closed = closed ∙ ap (λ (q : Turning.Parts). q.closed) (sym parts);
  answer = answer ∙ ap (λ (q : Turning.Parts). q.answer) (sym parts);
}

-- it waits for the acknowledgement
pub concludes_waiting : (M : StateMachineFields) (index : ℕ) (a : AnswerParts) (s : SessionFields) (o : Outcome) → slice_get M.state.sessions index ≡ Some s →
    s.is_abandoned ≡ false → o.send ≡ true → s.header.acknowledged ≡ true → a ≡ ended_and_sent (session_id s) (Turning.conclusion_of o) words.Finished →
    Concludes M (with_sessions M (replaced M.state.sessions (Turning.waits_for_ack M.state s o))) a s o
concludes_waiting M index a s o at abandoned sent acked said =
    let R = M.state in
    let new = Turning.waits_for_ack R s o in
    let N = with_sessions M (replaced R.sessions new) in
    concludes_by M N a s o (Turning.replaces_one R new (Turning.sends_it s o words.Finished)) (waits_by R s o abandoned sent acked) refl refl refl refl refl
    (ap (answer_in N) said ∙ ap (λ (x : Option SessionFields). record (Turning.concluded s o words.Finished) { finished = finished_by N.last_finished x ∷ [] })
    (replaced_self R.sessions new (session_id s) (found_by_name R.sessions index s at) refl))

-- it was abandoned: it is closed, and nothing is said of its outcome
pub concludes_abandoned : (M : StateMachineFields) (a : AnswerParts) (s : SessionFields) (o : Outcome) → s.is_abandoned ≡ true →
    a ≡ silent (Said (session_id s) words.Closed) → Concludes M (machine_closed M (Turning.settled s o)) a s o
concludes_abandoned M a s o abandoned said =
    let R = M.state in
    let N = machine_closed M (Turning.settled s o) in
    concludes_by M N a s o (Turning.closes R (Turning.settled s o) (Turning.said_word s words.Closed)) (cond-true s.is_abandoned _ _ abandoned)
    refl refl refl refl refl (ap (answer_in N) said)

-- it is closed, and no Finished PDU is sent
pub concludes_unsent : (M : StateMachineFields) (a : AnswerParts) (s : SessionFields) (o : Outcome) → s.is_abandoned ≡ false → o.send ≡ false →
    a ≡ ended (session_id s) (Turning.conclusion_of o) words.Closed → Concludes M (machine_closed M (Turning.settled s o)) a s o
concludes_unsent M a s o abandoned unsent said =
    let R = M.state in
    let N = machine_closed M (Turning.settled s o) in
    concludes_by M N a s o (Turning.closes R (Turning.settled s o) (Turning.concluded s o words.Closed))
    (cond-false s.is_abandoned _ _ abandoned ∙ cond-true (not o.send) _ _ (ap not unsent)) refl refl refl refl refl (ap (answer_in N) said)

-- the machine once the transaction is closed whose Finished PDU has these octets
abbrev pub closed_with : StateMachineFields → SessionFields → List ℕ → StateMachineFields
closed_with M s octets = record (machine_closed M s) { last_finished = octets }

-- it is closed, and the Finished PDU is sent once
pub concludes_closed : (M : StateMachineFields) (a : AnswerParts) (s : SessionFields) (o : Outcome) → AreDistinct M.state.sessions →
    s.is_abandoned ≡ false → o.send ≡ true → s.header.acknowledged ≡ false →
    a ≡ ended_and_sent (session_id s) (Turning.conclusion_of o) words.Closed → Concludes M (closed_with M (Turning.settled s o) (finished_octets o)) a s o
concludes_closed M a s o d abandoned sent acked said =
    let R = M.state in
    let N = closed_with M (Turning.settled s o) (finished_octets o) in
    concludes_by M N a s o (Turning.closes R (Turning.settled s o) (Turning.sends_it s o words.Closed)) (closes_by R s o abandoned sent acked)
    refl refl refl refl refl
    (ap (answer_in N) said ∙ ap (λ (x : Option SessionFields). record (Turning.concluded s o words.Closed) { finished = finished_by N.last_finished x ∷ [] })
    (gone R.sessions (session_id s) d))
