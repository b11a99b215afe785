use Rattle.std.proofs.Common.{◌∙◌}
use Rattle.cfdp_states.proofs.Sketched.{good_parent-is}
use Rattle.cfdp_states.proofs.extent_kinds.ExtentsKinds.parent_is_good.Goals as goal

pub returns : goal.returns
returns c = λ F h. c.has_good_parent.ensures.good ∙ good_parent-is _ F h _ c.has_good_parent.ensures.named
