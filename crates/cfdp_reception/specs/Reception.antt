-- A receiver and its last answer.
--     ReceptionFields           what the receiver keeps, and its answer to the last input: None before the first
--     Turned S T input          the step from S to T is the receiver's turn at this input, and T has the answer
--     Hears now octets S T      likewise for octets that came
--     pdus_in S                 the PDUs of the last answer, in order, without a CRC
use Rattle.std.specs.Prelude.{◌≡◌, ℕ, List, [], Option, Some, None, Ok}
use Rattle.cfdp_receiver.specs.Heard.{heard}
use Rattle.cfdp_receiver.specs.StateMachine.{AnswerParts, StateMachineFields, answer_in}
use Rattle.cfdp_receiver.specs.Sent.{pdus_of}
use Rattle.cfdp_receiver.specs.State.{Input, State}
use Rattle.cfdp_receiver.specs.Turning.{turn}

pub record ReceptionFields : Type 0 where
  pub machine : StateMachineFields
  pub answer : Option AnswerParts

abbrev pub TurnsTo : State → Input → StateMachineFields → Option AnswerParts → Type 0
TurnsTo R input M None = ⊥
TurnsTo R input M (Some a) = turn R input ≡ (M.state, answer_in M a)

abbrev pub Turned : ReceptionFields → ReceptionFields → Input → Type 0
Turned S T input = TurnsTo S.machine.state input T.machine T.answer

abbrev pub Hears : ℕ → List ℕ → ReceptionFields → ReceptionFields → Type 0
Hears now octets S T = (input : Input) × (heard now octets ≡ Ok input) × Turned S T input

abbrev pub pdus_by : StateMachineFields → Option AnswerParts → List (List ℕ)
pdus_by M None = []
pdus_by M (Some a) = pdus_of M a

abbrev pub pdus_in : ReceptionFields → List (List ℕ)
pdus_in S = pdus_by S.machine S.answer
