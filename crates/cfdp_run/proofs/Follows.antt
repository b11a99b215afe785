-- One input, and several, one after the other.
use Rattle.std.proofs.Common.{◌≡◌, ℕ, List, [], ◌∷◌, ◌++◌, refl, sym, ap, ◌∙◌, append_assoc}
use Rattle.std.specs.Prelude.{OnOk, Result, Ok, Err}
use Rattle.cfdp_receiver.specs.State.{State, AnswerFields, Input}
use Rattle.cfdp_receiver.specs.StateMachine.{StateMachineFields, AnswerParts, answer_in}
use Rattle.cfdp_receiver.specs.Turning.{turn}
use Rattle.cfdp_receiver.specs.declared.reading.Dropped.{Dropped}
use Rattle.cfdp_reports.specs.Reports.{answer_text}
use Rattle.cfdp_transactions.specs.MostSettled.{most_settled}
use Rattle.cfdp_run.specs.Playing.{Plays, after_turn, after_turns, heard_text, played, settling, turn_text}

pub turned_to : (R : State) (i : Input) (N : StateMachineFields) (a : AnswerParts) → turn R i ≡ (N.state, answer_in N a) → N.state ≡ after_turn R i
turned_to R i N a e = ap (λ (x : State × AnswerFields). x.0) (sym e)

pub after_both : (R : State) (is js : List Input) → after_turns R (is ++ js) ≡ after_turns (after_turns R is) js
after_both R [] js = refl
after_both R (i ∷ is) js = after_both (after_turn R i) is js

pub played_both : (R : State) (is js : List Input) → played R (is ++ js) ≡ played R is ++ played (after_turns R is) js
played_both R [] js = refl
played_both R (i ∷ is) js = ap (λ (t : List ℕ). turn_text R i ++ t) (played_both (after_turn R i) is js)
    ∙ sym (append_assoc (turn_text R i) (played (after_turn R i) is) (played (after_turns (after_turn R i) is) js))

-- octets came that were taken, and all was settled after them
pub heard_writes : {X E : Type 0} (result : Result X E) (R : State) (now : ℕ) (i : Input) (read : Result Input Dropped)
    (N : StateMachineFields) (a : AnswerParts) (L : State) (before after : List ℕ) → read ≡ Ok i → turn R i ≡ (N.state, answer_in N a) →
    OnOk result ((lines : List ℕ) × (lines ≡ answer_text N.state.mib (answer_in N a))
    × Plays N.state (settling most_settled now N.state) L (before ++ lines) after) →
    OnOk result (after ≡ before ++ heard_text now R read)
heard_writes (Ok x) R now i read N a L before after is t (lines, said, plays) =
    let rest = λ (S : State). played S (settling most_settled now S) in
    let text : lines ≡ turn_text R i = said ∙ ap (λ (y : State × AnswerFields). answer_text y.0.mib y.1) (sym t) in
    plays.writes ∙ ap (λ (S : State). (before ++ lines) ++ rest S) (turned_to R i N a t) ∙ append_assoc before lines (rest (after_turn R i))
    ∙ ap (λ (l : List ℕ). before ++ (l ++ rest (after_turn R i))) text ∙ ap (λ (r : Result Input Dropped). before ++ heard_text now R r) (sym is)
heard_writes (Err why) R now i read N a L before after is t done = tt
