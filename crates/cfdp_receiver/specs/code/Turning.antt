-- What only the proofs of the code need of `Turning`.
--     all_answers               the answers to several inputs
use Rattle.std.specs.Prelude.{List, [], ◌∷◌}
use Rattle.cfdp_receiver.specs.State.{State, Input, AnswerFields}
use Rattle.cfdp_receiver.specs.Turning.{parts, after_input}

-- ---- all inputs

abbrev pub all_answers : State → List Input → List AnswerFields
all_answers R [] = []
all_answers R (i ∷ is) = (parts R i).answer ∷ all_answers (after_input R i) is
