use Rattle.std.proofs.Common.{rules, ◌≡◌, true, false}
use Rattle.cfdp_disturb.specs.Disturbing.{Drawn, both, is_pdu_line, said}
use Rattle.cfdp_disturb.proofs.TakenLines.{in_turn, swapped, text_of_both}
use Rattle.cfdp_disturb.proofs.link.push_both.Goals as goal

pub returns-in_ok-push_said : goal.returns-in_ok-push_said
returns-in_ok-push_said c =
    let a : Drawn = (c.args.held.now.line.items, c.args.held.now.draw) in
    let b : Drawn = (c.args.line.now, c.args.draw) in
    let pdu : is_pdu_line b.0 ≡ true = search rules in
    text_of_both c.push_said-then-is_pdu_line.result c.args.text.now.items c.push_said.new.text.items c.push_said-then-is_pdu_line.new.text.items
    (said b) (said a) (both a b) (swapped a b pdu) (search rules) (search rules)

pub returns-in_ok-push_said-2 : goal.returns-in_ok-push_said-2
returns-in_ok-push_said-2 c =
    let a : Drawn = (c.args.held.now.line.items, c.args.held.now.draw) in
    let b : Drawn = (c.args.line.now, c.args.draw) in
    let other : is_pdu_line b.0 ≡ false = search rules in
    text_of_both c.push_said-else-is_pdu_line-2.result c.args.text.now.items c.push_said-else-is_pdu_line.new.text.items
    c.push_said-else-is_pdu_line-2.new.text.items
    (said a) (said b) (both a b) (in_turn a b other) (search rules) (search rules)
