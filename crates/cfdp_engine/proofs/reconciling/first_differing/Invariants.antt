use Rattle.std.proofs.Common.{ℕ, drop}
use Rattle.cfdp_engine.specs.Seats.{AllEntered, IsFirstDiffering}
use Rattle.cfdp_engine.proofs.reconciling.first_differing.Given as goal

abbrev pub invariant-loop-seat : goal.invariant-loop-seat
invariant-loop-seat l = record {
  entered : AllEntered l.journal (drop l.seat-index l.seats) → AllEntered l.journal l.seats;
  differs : (number index : ℕ) → IsFirstDiffering l.journal (drop l.seat-index l.seats) number index → IsFirstDiffering l.journal l.seats number index;
}
