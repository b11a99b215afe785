use Rattle.std.proofs.Common.{◌≡◌, length}
use Rattle.cfdp_links.specs.Linked.{AllNumbered}
use Rattle.cfdp_links.proofs.workers.fn.run_all.scope.Given as goal

abbrev pub invariant-loop-index : goal.invariant-loop-index
invariant-loop-index g l = record {
  numbered : AllNumbered (λ number worker. worker.promise.0 ≡ number) 0 l.workers.items;
  many : length l.workers.items ≡ l.index;
}
