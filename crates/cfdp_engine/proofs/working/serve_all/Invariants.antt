use Rattle.std.proofs.Common.{◌≡◌, ◌-◌, ◌^◌, min}
use Rattle.cfdp_engine.specs.Sharing.{AddsReceipts}
use Rattle.cfdp_engine.specs.Working.{BringAll, passed_over}
use Rattle.cfdp_engine.proofs.working.serve_all.Given as goal

abbrev pub invariant-loop : goal.invariant-loop
invariant-loop g l = record {
  brings : AddsReceipts (BringAll l.worked.taken.items) l.fn.worked.seat l.worked.seat;
  dropped : l.worked.dropped ≡ min (passed_over l.worked.taken.items) (2 ^ 64 - 1);
  running : l.worked.stopped ≡ l.fn.worked.stopped;
}
