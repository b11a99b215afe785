use Rattle.std.proofs.Common.{refl}
use Rattle.cfdp_engine.proofs.seat.Seat.new.Goals as goal

pub returns-clause-number : goal.returns-clause-number
returns-clause-number c = refl
