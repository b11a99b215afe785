-- Timers below their limits: what is sent again.
use Rattle.std.specs.Prelude.{slice_get}
use Rattle.std.proofs.Common.{◌≡◌, ◌⊎◌, inl, inr, ℕ, zero, suc, true, false, List, [], ◌∷◌, length, Option, Some, refl, sym, ap, ◌∙◌}
use Rattle.std.proofs.lemmas.Bool.{cond-true, cond-false, cases_Bool}
use Rattle.std.proofs.lemmas.Option.{same_Some}
use Rattle.cfdp_status.specs.declared.transaction.TransactionId.{TransactionId}
use Rattle.cfdp_leases.specs.Leases.{is_same}
use Rattle.cfdp_directives.specs.Reading.{NakFields}
use Rattle.cfdp_retransmission.specs.declared.timer.Timer.{Timer}
use Rattle.cfdp_retransmission.specs.declared.timer.Expiry.TheVariants.{Again}
use Rattle.cfdp_retransmission.specs.Timers.{passed}
use Rattle.cfdp_sessions.specs.Sessions.{SessionFields, session_id, replaced}
use Rattle.cfdp_sessions.proofs.Names.{replaced_self}
use Rattle.cfdp_sessions.proofs.Indexes.{found_by_name}
use Rattle.cfdp_transactions.specs.declared.reply.Reply.{Reply}
use Rattle.cfdp_transactions.specs.World.{World}
use Rattle.cfdp_transactions.specs.Next.{run}
use Rattle.cfdp_receiver.specs.declared.indication.Became.TheVariants.{Said}
use Rattle.cfdp_receiver.specs.declared.indication.Word.TheVariants as words
use Rattle.cfdp_receiver.specs.declared.mib.Mib.{Mib}
use Rattle.cfdp_receiver.specs.State.{State, Expire, moments, JointPhase, At_held, At_receiving, At_awaiting, At_executing, At_over, At_waiting, at_of}
use Rattle.cfdp_receiver.specs.Due.{Stage_due, first_due}
use Rattle.cfdp_receiver.specs.Handing.{due_events}
use Rattle.cfdp_receiver.specs.StateMachine.{StateMachineFields, AnswerParts, answer_in, finished_by}
use Rattle.cfdp_receiver.specs.code.StateMachine.{Turns, silent}
use Rattle.cfdp_receiver.specs.Turning as Turning
use Rattle.cfdp_receiver.proofs.LimitsReached.{with_lists}
use Rattle.cfdp_receiver.proofs.LateTurns.{turns_by}

-- ---- the session with another timer

pub replaced_length : (ss : List SessionFields) (new : SessionFields) → length (replaced ss new) ≡ length ss
replaced_length [] new = refl
replaced_length (x ∷ xs) new = elim (cases_Bool (is_same (session_id x) (session_id new))) [
  | inl here ↦ ap (λ (ys : List SessionFields). length ys) (cond-true (is_same (session_id x) (session_id new)) (new ∷ xs) (x ∷ replaced xs new) here)
  | inr there ↦
      ap (λ (ys : List SessionFields). length ys) (cond-false (is_same (session_id x) (session_id new)) (new ∷ xs) (x ∷ replaced xs new) there)
      ∙ ap suc (replaced_length xs new)
]

-- the session at an index is the new one or stays
at_replaced : (ss : List SessionFields) (new s t : SessionFields) (i : ℕ) → slice_get ss i ≡ Some s →
    slice_get (replaced ss new) i ≡ Some t → (new ≡ t) ⊎ (s ≡ t)
at_replaced [] new s t i e after = absurd cc
at_replaced (x ∷ xs) new s t zero e after = elim (cases_Bool (is_same (session_id x) (session_id new))) [
  | inl here ↦
      let put = cond-true (is_same (session_id x) (session_id new)) (new ∷ xs) (x ∷ replaced xs new) here in
      inl (same_Some new t (ap (λ (ys : List SessionFields). slice_get ys 0) (sym put) ∙ after))
  | inr there ↦
      let put = cond-false (is_same (session_id x) (session_id new)) (new ∷ xs) (x ∷ replaced xs new) there in
      inr (same_Some s t (sym e ∙ ap (λ (ys : List SessionFields). slice_get ys 0) (sym put) ∙ after))
]
at_replaced (x ∷ xs) new s t (suc i) e after = elim (cases_Bool (is_same (session_id x) (session_id new))) [
  | inl here ↦
      let put = cond-true (is_same (session_id x) (session_id new)) (new ∷ xs) (x ∷ replaced xs new) here in
      inr (same_Some s t (sym e ∙ ap (λ (ys : List SessionFields). slice_get ys (suc i)) (sym put) ∙ after))
  | inr there ↦
      let put = cond-false (is_same (session_id x) (session_id new)) (new ∷ xs) (x ∷ replaced xs new) there in
      at_replaced xs new s t i e (ap (λ (ys : List SessionFields). slice_get ys (suc i)) (sym put) ∙ after)
]

pub asks_same : (mib : Mib) (V : World) (ss : List SessionFields) (s t : SessionFields) (timer : Timer) (i : ℕ) → slice_get ss i ≡ Some s →
    slice_get (replaced ss (record s { timer = timer })) i ≡ Some t → Turning.asks mib V t ≡ Turning.asks mib V s
asks_same mib V ss s t timer i e after = elim (at_replaced ss (record s { timer = timer }) s t i e after) [
  | inl new ↦ ap (Turning.asks mib V) (sym new)
  | inr old ↦ ap (Turning.asks mib V) (sym old)
]

-- ---- the turn

abbrev pub again_in : StateMachineFields → SessionFields → World
again_in M s = run M.state.world (due_events M.state (Stage_due s false))

abbrev pub again_session : StateMachineFields → SessionFields → SessionFields
again_session M s = record s { timer = passed M.state.now s.timer Again }

abbrev pub again_made : StateMachineFields → SessionFields → StateMachineFields
again_made M s = with_lists M (again_in M s) (replaced M.state.sessions (again_session M s)) M.state.closed

pub again_turns : (M N : StateMachineFields) (a : AnswerParts) (s : SessionFields) → first_due M.state M.state.sessions ≡ Stage_due s false → N ≡ again_made M s
    →
    answer_in (again_made M s) a ≡ Turning.repeats M.state (again_in M s) s (at_of M.state.world s) → Turns M N a (Expire M.state.now)
again_turns M N a s due is answer =
    let R = M.state in
    turns_by M N a (Expire R.now) (due_events R (Stage_due s false)) (λ (U : World) (rs : List Reply). Turning.due_parts R U (Stage_due s false))
    (ap (due_events R) due)
    (λ (U : World) (rs : List Reply). ap (Turning.due_parts R U) due)
    (ap (λ (m : StateMachineFields). m.state.world) is)
    (ap (λ (m : StateMachineFields). m.state.mib) is)
    (ap (λ (m : StateMachineFields). moments m.state) is)
    (ap (λ (m : StateMachineFields). m.state.sessions) is)
    (ap (λ (m : StateMachineFields). m.state.closed) is)
    (ap (λ (m : StateMachineFields). answer_in m a) is ∙ answer)

-- Finished again
pub says_finished : (M : StateMachineFields) (a b : AnswerParts) (s : SessionFields) (id : TransactionId) (i : ℕ) →
    slice_get M.state.sessions i ≡ Some s → id ≡ session_id s → b ≡ silent (Said id words.Expired) → a ≡ record b { finished = id ∷ [] } →
    at_of M.state.world s ≡ At_waiting → answer_in (again_made M s) a ≡ Turning.repeats M.state (again_in M s) s (at_of M.state.world s)
says_finished M a b s id i e name word is waits =
    let N = again_made M s in
    let octets = replaced_self M.state.sessions (again_session M s) (session_id s) (found_by_name M.state.sessions i s e) refl in
    ap (answer_in N) (is ∙ ap (λ (x : AnswerParts). record x { finished = id ∷ [] }) word)
    ∙ ap (λ (x : TransactionId). answer_in N (record (silent (Said x words.Expired)) { finished = x ∷ [] })) name
    ∙ ap (λ (o : Option SessionFields). record (Turning.said_word s words.Expired) { finished = finished_by N.last_finished o ∷ [] }) octets
    ∙ ap (Turning.repeats M.state (again_in M s) s) (sym waits)

repeats_asks : (R : State) (V : World) (s : SessionFields) (at : JointPhase) → (at ≡ At_waiting → ⊥) → s.header.acknowledged ≡ true →
    record (Turning.said_word s words.Expired) { naks = Turning.asks R.mib V s } ≡ Turning.repeats R V s at
repeats_asks R V s At_held other mode = sym (cond-true s.header.acknowledged _ _ mode)
repeats_asks R V s At_receiving other mode = sym (cond-true s.header.acknowledged _ _ mode)
repeats_asks R V s (At_awaiting made) other mode = sym (cond-true s.header.acknowledged _ _ mode)
repeats_asks R V s At_executing other mode = sym (cond-true s.header.acknowledged _ _ mode)
repeats_asks R V s At_over other mode = sym (cond-true s.header.acknowledged _ _ mode)
repeats_asks R V s At_waiting other mode = absurd (other refl)

-- what is missing is asked for
pub says_naks : (M : StateMachineFields) (a b : AnswerParts) (s : SessionFields) (id : TransactionId) (naks : List NakFields) → id ≡ session_id s →
    b ≡ silent (Said id words.Expired) → a ≡ record b { naks = naks } → naks ≡ Turning.asks M.state.mib (again_in M s) s →
    (at_of M.state.world s ≡ At_waiting → ⊥) → s.header.acknowledged ≡ true →
    answer_in (again_made M s) a ≡ Turning.repeats M.state (again_in M s) s (at_of M.state.world s)
says_naks M a b s id naks name word is asked other mode =
    ap (answer_in (again_made M s)) (is ∙ ap (λ (x : AnswerParts). record x { naks = naks }) word)
    ∙ ap (λ (x : TransactionId). record (Turning.quiet (Said x words.Expired)) { naks = naks }) name
    ∙ ap (λ (xs : List NakFields). record (Turning.said_word s words.Expired) { naks = xs }) asked
    ∙ repeats_asks M.state (again_in M s) s (at_of M.state.world s) other mode
