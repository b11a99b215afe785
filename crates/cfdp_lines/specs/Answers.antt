-- What a line appends to the text that is not written yet.
--
--   AnswersLine  a line moved the state on, and its text came after what was there
--   Adds      some octets moved a run on, and their text came after what was there
use Rattle.std.specs.Prelude.{◌≡◌, ℕ, List, ◌++◌, Option, Some}
use Rattle.cfdp_lines.specs.Session.{LineReading, Moves}

pub record AnswersLine {State : Type 0} (answer : State → List ℕ → Option (State × List ℕ)) (from to : State)
    (line before after : List ℕ)
    : Type 0 where
  pub text : List ℕ
  pub answered : answer from line ≡ Some (to, text)
  pub appended : after ≡ before ++ text

pub record Adds {State : Type 0} (answer : State → List ℕ → Option (State × List ℕ)) (from to : LineReading State)
    (octets before after : List ℕ)
    : Type 0 where
  pub text : List ℕ
  pub moves : Moves answer from to octets text
  pub appended : after ≡ before ++ text
