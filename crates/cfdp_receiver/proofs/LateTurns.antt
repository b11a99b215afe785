-- Turns of a state that is as late as its input.
use Rattle.std.proofs.Common.{◌≡◌, ℕ, false, List, sym, ap, ◌∙◌}
use Rattle.std.specs.Prelude.{max}
use Rattle.std.proofs.lemmas.Bool.{cond-false}
use Rattle.cfdp_sessions.specs.Closed.{ClosedFields}
use Rattle.cfdp_sessions.specs.Sessions.{SessionFields}
use Rattle.cfdp_transactions.specs.declared.event.Event.{Event}
use Rattle.cfdp_transactions.specs.declared.reply.Reply.{Reply}
use Rattle.cfdp_transactions.specs.World.{World}
use Rattle.cfdp_transactions.specs.Next.{run, replies}
use Rattle.cfdp_receiver.specs.declared.mib.Mib.{Mib}
use Rattle.cfdp_receiver.specs.State.{State, Input, NotTaken, AnswerFields, moments, now_of}
use Rattle.cfdp_receiver.specs.Handing.{events_of}
use Rattle.cfdp_receiver.specs.StateMachine.{StateMachineFields, AnswerParts, answer_in}
use Rattle.cfdp_receiver.specs.code.StateMachine.{Turns, at_moment}
use Rattle.cfdp_receiver.specs.Turning as Turning

abbrev state_of : World → Mib → ℕ × ℕ → List SessionFields → ClosedFields → State
state_of W mib at ss closed = record { world = W; mib = mib; now = at.0; seen = at.1; sessions = ss; closed = closed }

same_state : (S : State) (W : World) (mib : Mib) (at : ℕ × ℕ) (ss : List SessionFields) (closed : ClosedFields) →
    S.world ≡ W → S.mib ≡ mib → moments S ≡ at → S.sessions ≡ ss → S.closed ≡ closed → S ≡ state_of W mib at ss closed
same_state S W mib at ss closed w m n s c =
    ap (λ (x : World). state_of x S.mib (moments S) S.sessions S.closed) w
    ∙ ap (λ (x : Mib). state_of W x (moments S) S.sessions S.closed) m
    ∙ ap (λ (x : ℕ × ℕ). state_of W mib x S.sessions S.closed) n
    ∙ ap (λ (x : List SessionFields). state_of W mib at x S.closed) s
    ∙ ap (λ (x : ClosedFields). state_of W mib at ss x) c

abbrev pair_of : State → AnswerFields → State × AnswerFields
pair_of S a = (S, a)

-- an input that does not move the clock
abbrev pub IsAtMoment : State → Input → Type 0
IsAtMoment R i = Turning.seen_after R i ≡ max R.seen (now_of i)

pub turned_state : (M N : StateMachineFields) (a : AnswerParts) (i : Input) → IsAtMoment M.state i → Turns (at_moment (now_of i) M) N a i →
    N.state ≡ Turning.after_input M.state i
turned_state M N a i moment t =
    let after = Turning.after_input M.state i in
    let late : moments (at_moment (now_of i) M).state ≡ moments after = ap (λ (seen : ℕ). (after.now, seen)) (sym moment) in
    same_state N.state after.world after.mib (moments after) after.sessions after.closed t.world t.mib (t.now ∙ late) t.sessions t.closed

-- and whose moment is not too far ahead
pub turned : (M N : StateMachineFields) (a : AnswerParts) (i : Input) → IsAtMoment M.state i → Turning.is_too_far M.state (now_of i) ≡ false →
    Turns (at_moment (now_of i) M) N a i → Turning.turn M.state i ≡ (N.state, answer_in N a)
turned M N a i moment near t =
    let after = Turning.after_input M.state i in
    let same = turned_state M N a i moment t in
    let taken : Turning.timely M.state i ≡ i = cond-false (Turning.is_too_far M.state (now_of i)) NotTaken i near in
    ap (λ (x : Input). (Turning.after_input M.state x, (Turning.parts M.state x).answer)) taken
    ∙ sym (ap (λ (S : State). pair_of S (answer_in N a)) same ∙ ap (λ (x : AnswerFields). pair_of after x) t.answer)

-- by the events that are handed on, and what becomes of the sessions in the world after them
pub turns_by : (M N : StateMachineFields) (a : AnswerParts) (i : Input) (es : List Event) (p : World → List Reply → Turning.Parts) →
    events_of M.state i ≡ es → ((V : World) (rs : List Reply) → Turning.parts_of M.state V rs i ≡ p V rs) →
    N.state.world ≡ run M.state.world es → N.state.mib ≡ M.state.mib → moments N.state ≡ moments M.state →
    N.state.sessions ≡ (p (run M.state.world es) (replies M.state.world es)).sessions →
    N.state.closed ≡ (p (run M.state.world es) (replies M.state.world es)).closed →
    answer_in N a ≡ (p (run M.state.world es) (replies M.state.world es)).answer → Turns M N a i
turns_by M N a i es p handed parts world mib now sessions closed answer =
    let W = M.state.world in
    let here : Turning.parts_of M.state (run W (events_of M.state i)) (replies W (events_of M.state i)) i ≡ p (run W es) (replies W es) =
    parts (run W (events_of M.state i)) (replies W (events_of M.state i))
    ∙ ap (λ (vs : List Event). p (run W vs) (replies W vs)) handed in
    record {
      world = world ∙ ap (run W) (sym handed);
      mib = mib;
      now = now;
      sessions = sessions ∙ ap (λ (q : Turning.Parts). q.sessions) (sym here);
      closed = closed ∙ ap (λ (q : Turning.Parts). q.closed) (sym here);
      answer = answer ∙ ap (λ (q : Turning.Parts). q.answer) (sym here);
    }
