use Rattle.std.proofs.Common.{rules, ◌≡◌, false}
use Rattle.cfdp_disturb.specs.Disturbing.{Drawn, is_held}
use Rattle.cfdp_disturb.proofs.TakenLines.{taken_alone}
use Rattle.cfdp_disturb.proofs.link.Link.take_first.Goals as goal

pub returns-then-not-is_held-clause-ok : goal.returns-then-not-is_held-clause-ok
returns-then-not-is_held-clause-ok c =
    let a : Drawn = (c.args.line.now, c.args.draw) in
    let free : is_held a ≡ false = search rules in
    taken_alone c.push_said.result c.args.self.now c.args.text.now.items c.push_said.new.text.items a c.requires free c.push_said.ensures
