use Rattle.std.proofs.Common.{ap, ◌∙◌}
use Rattle.std.specs.FinMap.{from_sorted}
use Rattle.cfdp_states.proofs.Counted.{no_entries}
use Rattle.cfdp_states.proofs.sorted_extents.SortedExtents.new.Goals as goal

pub returns : goal.returns
returns c = ap from_sorted c.new.ensures ∙ no_entries
