use Rattle.std.proofs.Common.{◌∙◌}
use Rattle.cfdp_states.proofs.Sketched.{depth-is}
use Rattle.cfdp_states.proofs.extent_kinds.ExtentsKinds.is_too_deep.Goals as goal

pub returns-clause-stated : goal.returns-clause-stated
returns-clause-stated c = λ F h. c.is_too_deep.ensures ∙ depth-is _ F h _ _
