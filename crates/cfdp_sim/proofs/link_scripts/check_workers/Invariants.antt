use Rattle.std.proofs.Common.{◌≡◌, ℕ, ◌+◌, List, ◌++◌, drop, length, map, None}
use Rattle.std.specs.List.{AllByRecursion}
use Rattle.std.specs.Vec.Iter.{into_iter_items}
use Rattle.cfdp_engine.specs.Seats.{Seated}
use Rattle.cfdp_engine.specs.Sharing.{receipt_events}
use Rattle.cfdp_links.specs.Linked.{AllNumbered, AreHanded, HasReadable, IsHeard, IsWork}
use Rattle.cfdp_links.specs.code.Linked.{took_of}
use Rattle.cfdp_links.specs.Links.{said_of}
use Rattle.cfdp_sim.proofs.link_scripts.check_workers.Given as goal

abbrev pub invariant-loop-worked : goal.invariant-loop-worked
invariant-loop-worked l = record {
  works : AllNumbered IsWork (length l.seats.items) (into_iter_items l.worked-iterator);
  finished : AllByRecursion (λ worked. worked.stopped ≡ None) (into_iter_items l.worked-iterator);
  heard : AllByRecursion (λ file. AllByRecursion IsHeard (map said_of file.items)) (drop (length l.seats.items) l.files);
  handed : (others : List Seated) (counts : List ℕ)
      → AreHanded (λ seat. receipt_events seat.receipts) (length l.seats.items) (map (λ file. map said_of file.items)
      (drop (length l.seats.items) l.files)) others
      counts
      → AreHanded (λ seat. receipt_events seat.receipts) 0 (map (λ file. map said_of file.items) l.files) (l.seats.items ++ others) (l.dropped.items ++ counts);
  readable : AllByRecursion HasReadable l.seats.items;
  seats : map (λ worked. worked.seat) l.fn.workers.items ≡ l.seats.items ++ map (λ worked. worked.seat) (into_iter_items l.worked-iterator);
  took : took_of (into_iter_items l.worked-iterator) ≡ map (λ file. map said_of file.items) (drop (length l.seats.items) l.files)
      → took_of l.fn.workers.items ≡ map (λ file. map said_of file.items) l.files;
  only : took_of l.fn.workers.items ≡ map (λ file. map said_of file.items) l.files
      → took_of (into_iter_items l.worked-iterator) ≡ map (λ file. map said_of file.items) (drop (length l.seats.items) l.files);
  each : length l.seats.items + length (into_iter_items l.worked-iterator) ≡ length l.files;
}
