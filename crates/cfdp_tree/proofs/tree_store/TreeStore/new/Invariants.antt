use Rattle.std.proofs.Common.{◌≡◌, vec_len}
use Rattle.std.specs.Prelude.{All}
use Rattle.cfdp_tree.specs.code.Slots.{IsFreshSlot}
use Rattle.cfdp_tree.proofs.tree_store.TreeStore.new.Given as goal

abbrev pub invariant-loop-slot : goal.invariant-loop-slot
invariant-loop-slot l = record { many : vec_len l.slots ≡ l._slot; fresh : All IsFreshSlot l.slots.items }
