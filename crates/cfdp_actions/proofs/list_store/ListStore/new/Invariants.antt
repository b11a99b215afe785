use Rattle.std.proofs.Common.{◌≡◌, [], replicate}
use Rattle.cfdp_actions.specs.Listed.{vector_octets}
use Rattle.cfdp_actions.proofs.list_store.ListStore.new.Given as goal

abbrev pub invariant-loop-slot : goal.invariant-loop-slot
invariant-loop-slot l = vector_octets l.staged.items ≡ replicate l._slot []
