use Rattle.std.proofs.Common.{◌≡◌, ◌+◌, ◌*◌, ◌≤◌, ◌^◌, drop}
use Rattle.cfdp_states.specs.code.Sketching.{total_weight}
use Rattle.cfdp_states.proofs.sorted_extents.count.Given as goal

-- the blocks so far, and those to count yet
abbrev pub invariant-loop-entry : goal.invariant-loop-entry
invariant-loop-entry l = record {
  counted : l.total + total_weight (drop l.entry-index l.entries) ≡ total_weight l.entries;
  few : l.total ≤ l.entry-index * 2 ^ 58;
}
