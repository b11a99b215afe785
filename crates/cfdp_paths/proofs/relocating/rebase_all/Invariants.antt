use Rattle.std.proofs.Common.{◌≡◌}
use Rattle.cfdp_paths.proofs.Moving.{moved_up_to}
use Rattle.cfdp_paths.proofs.relocating.rebase_all.Given as goal

abbrev pub invariant-loop-entry : goal.invariant-loop-entry
invariant-loop-entry g l = l.entries ≡ moved_up_to l.from l.to l.fn.entries l.entry-index
