use Rattle.std.proofs.Common.{ℕ, drop}
use Rattle.cfdp_engine.specs.Seats.{AreEntered, IsFirstUnentered}
use Rattle.cfdp_engine.proofs.reconciling.first_unentered.Given as goal

abbrev pub invariant-loop-receipt : goal.invariant-loop-receipt
invariant-loop-receipt l = record {
  entered : AreEntered l.journal l.seat.number l.low (drop l.receipt-index l.seat.receipts) → AreEntered l.journal l.seat.number 0 l.seat.receipts;
  not : (index : ℕ) → IsFirstUnentered l.journal l.seat.number l.low (drop l.receipt-index l.seat.receipts) index →
      IsFirstUnentered l.journal l.seat.number 0 l.seat.receipts index;
}
