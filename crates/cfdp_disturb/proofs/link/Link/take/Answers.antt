use Rattle.std.proofs.Common.{rules}
use Rattle.cfdp_disturb.specs.Disturbing.{Drawn}
use Rattle.cfdp_disturb.proofs.TakenLines.{taken_both}
use Rattle.cfdp_disturb.proofs.link.Link.take.Goals as goal

pub returns-clause-ok : goal.returns-clause-ok
returns-clause-ok c =
    let a : Drawn = (c.in-Some.held.line.items, c.in-Some.held.draw) in
    let b : Drawn = (c.args.line.now, c.args.draw) in
    taken_both c.args.self.now c.args.text.now.items c.push_both.new.text.items a b (search rules) (search rules) (search rules)
