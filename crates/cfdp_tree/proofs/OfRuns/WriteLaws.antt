-- What stays where octets of a run are written, at once or one part after the other.
--     writes_then         the second write after the first one
use Rattle.std.proofs.Common.{◌∙◌}
use Rattle.cfdp_arena.specs.Arena.{Blocks}
use Rattle.cfdp_tree.specs.code.Frames.{WritesOnly}
use Rattle.cfdp_tree.specs.declared.runs.Run.{Run}
use Rattle.cfdp_tree.proofs.OfRuns.HeldLaws.{others_then}

pub writes_then : (first second third : Blocks) (run : Run) → WritesOnly first second run → WritesOnly second third run → WritesOnly first third run
writes_then first second third run before after = record {
  held = after.held;
  sequence = (λ k within. after.sequence k within ∙ before.sequence k within);
  free = after.free ∙ before.free;
  size = after.size ∙ before.size;
  others = others_then first second third run before.others after.others;
  nodes = after.nodes ∙ before.nodes;
}
