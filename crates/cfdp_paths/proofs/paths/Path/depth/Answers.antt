use Rattle.std.proofs.Common.{ap, length, ◌∙◌}
use Rattle.cfdp_paths.proofs.paths.Path.depth.Goals as goal

pub returns-clause-depth : goal.returns-clause-depth
returns-clause-depth c = c.self.invariant.1 ∙ ap length c.self.view_is
