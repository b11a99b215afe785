-- What only the proofs of the code need of `Values`.
--   second_of        the second name of an action that has one
--   or_empty         the octets of a second name, none where there is no name
use Rattle.std.specs.Prelude.{ℕ, List, [], Option, Some, None, if◌then◌else◌}
use Rattle.cfdp_status.specs.Codes.{has_second}
use Rattle.cfdp_status.specs.declared.action.Action.{Action}

abbrev pub second_of : Action → List ℕ → Option (List ℕ)
second_of action name = if has_second action then Some name else None

abbrev pub or_empty : Option (List ℕ) → List ℕ
or_empty None = []
or_empty (Some name) = name
