use Rattle.std.proofs.Common.{rules}
use Rattle.cfdp_disturb.specs.Disturbing.{Drawn}
use Rattle.cfdp_disturb.proofs.TakenLines.{finished, finished_none}
use Rattle.cfdp_disturb.proofs.link.Link.finish.Goals as goal

pub returns-in_default-clause-ok : goal.returns-in_default-clause-ok
returns-in_default-clause-ok c = finished_none c.args.self.now c.args.text.now.items (search rules)

pub returns-clause-ok : goal.returns-clause-ok
returns-clause-ok c =
    let a : Drawn = (c.in-Some.held.line.items, c.in-Some.held.draw) in
    finished c.args.self.now c.args.text.now.items c.push_said.new.text.items a (search rules) (search rules)
