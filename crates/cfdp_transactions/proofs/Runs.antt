-- A run of two lists of events is a run of the one, and then of the other.
use Rattle.std.proofs.Common.{◌≡◌, refl, List, [], ◌∷◌, ◌++◌}
use Rattle.cfdp_transactions.specs.declared.event.Event.{Event}
use Rattle.cfdp_transactions.specs.World.{World}
use Rattle.cfdp_transactions.specs.Next.{next, run}

pub run-append : (W : World) (xs ys : List Event) → run W (xs ++ ys) ≡ run (run W xs) ys
run-append W [] ys = refl
run-append W (x ∷ xs) ys = run-append (next W x).0 xs ys
