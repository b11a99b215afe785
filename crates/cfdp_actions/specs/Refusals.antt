-- Why a row of the action table is not successful, room apart.
--     Refuses o stated                   the status with which the row is refused; None where it is successful
use Rattle.std.specs.Prelude.{◌≡◌, IsTrue, Option, Some, None}
use Rattle.cfdp_status.specs.declared.status.Status.{Status}
use Rattle.cfdp_actions.specs.Actions.{Outcome, succeeded, refused}

abbrev pub Refuses : Outcome → Option Status → Type 0
Refuses o None = IsTrue (succeeded o.answer)
Refuses o (Some status) = o ≡ refused status
