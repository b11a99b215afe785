use Rattle.cfdp_draw.proofs.Harmless.{harmless}
use Rattle.cfdp_draw.proofs.laws.escaped_is_harmless.Goals as goal

pub returns : goal.returns
returns c = harmless
