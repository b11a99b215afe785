use Rattle.std.proofs.Common.{◌≡◌, ◌++◌, length}
use Rattle.cfdp_draw.specs.Lanes.{files_text}
use Rattle.cfdp_draw.proofs.lanes.push_files.Given as goal

abbrev pub invariant-files : goal.invariant-files
invariant-files l = l.text.items ++ files_text l.total l.size l.rest ≡ l.initial.text.items ++ files_text l.total l.size l.files

abbrev pub decreases-files : goal.decreases-files
decreases-files l = length l.rest
