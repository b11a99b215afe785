-- What only the proofs of the code need of `Stages`.
--     IsFit said              a line `mib` leaves settings that a receiver takes
use Rattle.std.specs.Prelude.{◌≡◌, None}
use Rattle.cfdp_receiver.specs.StateMachine.{mib_fault}
use Rattle.cfdp_run.specs.Commands.{LineMeaning, Settings}

-- a line `mib` leaves settings that a receiver takes
abbrev pub IsFit : LineMeaning → Type 0
IsFit (Settings mib) = mib_fault mib ≡ None
IsFit said = Unit {0}
