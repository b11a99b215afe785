use Rattle.std.proofs.Common.{◌∙◌}
use Rattle.cfdp_states.proofs.Sketched.{entries-is}
use Rattle.cfdp_states.proofs.extent_kinds.ExtentsKinds.has_entries.Goals as goal

pub returns : goal.returns
returns c = λ F h. c.has_below.ensures ∙ entries-is _ F h _
