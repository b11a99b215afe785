use Rattle.std.proofs.Common.{◌≡◌, ◌+◌, length}
use Rattle.std.specs.Vec.Iter.{into_iter_items}
use Rattle.cfdp_links.specs.Linked.{AllNumbered, IsWork}
use Rattle.cfdp_links.proofs.workers.join_all.Given as goal

abbrev pub invariant-loop-worker : goal.invariant-loop-worker
invariant-loop-worker g l = record {
  promised : AllNumbered (λ number worker. worker.promise.0 ≡ number) (length l.all.items) (into_iter_items l.worker-iterator);
  works : AllNumbered IsWork 0 l.all.items;
  each : length l.all.items + length (into_iter_items l.worker-iterator) ≡ length l.fn.workers.items;
}
