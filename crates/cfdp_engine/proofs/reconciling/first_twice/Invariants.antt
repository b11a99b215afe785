use Rattle.std.proofs.Common.{ℕ, [], drop, take}
use Rattle.cfdp_engine.specs.Seats.{SeatsDiffer, IsFirstTwice}
use Rattle.cfdp_engine.proofs.reconciling.first_twice.Given as goal

abbrev pub invariant-loop-index : goal.invariant-loop-index
invariant-loop-index l = record {
  apart : SeatsDiffer (take l.index l.seats) (drop l.index l.seats) → SeatsDiffer [] l.seats;
  twice : (number : ℕ) → IsFirstTwice (take l.index l.seats) (drop l.index l.seats) number → IsFirstTwice [] l.seats number;
}
