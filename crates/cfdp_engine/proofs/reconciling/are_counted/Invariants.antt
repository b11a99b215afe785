use Rattle.std.proofs.Common.{◌≡◌, ◌+◌, length, drop}
use Rattle.cfdp_engine.specs.Seats.{receipts_in}
use Rattle.cfdp_engine.proofs.reconciling.are_counted.Given as goal

abbrev pub invariant-loop-seat : goal.invariant-loop-seat
invariant-loop-seat l = l.left + receipts_in l.seats ≡ length l.journal + receipts_in (drop l.seat-index l.seats)
