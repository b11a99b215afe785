use Rattle.cfdp_engine.specs.Sharing.{AddsReceipts}
use Rattle.cfdp_engine.specs.Working.{AreSteps}
use Rattle.cfdp_engine.proofs.working.run.Given as goal

abbrev pub invariant-loop : goal.invariant-loop
invariant-loop g l = AddsReceipts (AreSteps l.counter) l.fn.seat l.seat
