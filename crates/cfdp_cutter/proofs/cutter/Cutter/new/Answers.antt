use Rattle.std.proofs.Common.{◌∙◌, ap}
use Rattle.cfdp_cutter.specs.Cutting.{first_pdu}
use Rattle.cfdp_cutter.proofs.Filling.{nothing_open}
use Rattle.cfdp_cutter.proofs.cutter.Cutter.new.Goals as goal

pub invariant_of-result : goal.invariant_of-result
invariant_of-result c = ap first_pdu c.new.ensures.items ∙ nothing_open
