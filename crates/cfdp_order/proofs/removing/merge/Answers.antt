use Rattle.std.proofs.Common.{◌++◌, refl, sym, ◌∙◌}
use Rattle.std.proofs.lemmas.List.{append-nil}
use Rattle.cfdp_order.specs.Orders.{nodes}
use Rattle.cfdp_order.proofs.TreeLaws.{no_nodes}
use Rattle.cfdp_order.proofs.ShrinkLaws.{Front, merged_listed, merged_can, merged_others}
use Rattle.cfdp_order.proofs.removing.merge.Goals as goal

pub returns-then-is_empty-clause-nodes : goal.returns-then-is_empty-clause-nodes
returns-then-is_empty-clause-nodes c =
    let links = c.args.links.now in
    sym (append-nil (nodes links c.args.left)) ∙ (λ i. nodes links c.args.left ++ sym (no_nodes links c.args.right (c.if-is_empty.ensures.0 refl)) i)

pub balance-requires-clause-parts : goal.balance-requires-clause-parts
balance-requires-clause-parts c =
    let taken = c.take_first-front in let e = taken.ensures in
    let front : Front c.args.links.now taken.new.links c.args.left c.args.right taken.result.node taken.result.rest =
    record { is_left = c.requires.left; is_right = c.requires.right; once = c.requires.once; is_rest = e.order; first = e.nodes; others = e.others } in
    merged_can front

pub returns-clause-nodes : goal.returns-clause-nodes
returns-clause-nodes c =
    let taken = c.take_first-front in let e = taken.ensures in
    let front : Front c.args.links.now taken.new.links c.args.left c.args.right taken.result.node taken.result.rest =
    record { is_left = c.requires.left; is_right = c.requires.right; once = c.requires.once; is_rest = e.order; first = e.nodes; others = e.others } in
    c.balance.ensures.nodes ∙ merged_listed front

pub returns-clause-others : goal.returns-clause-others
returns-clause-others c =
    let taken = c.take_first-front in let e = taken.ensures in
    let front : Front c.args.links.now taken.new.links c.args.left c.args.right taken.result.node taken.result.rest =
    record { is_left = c.requires.left; is_right = c.requires.right; once = c.requires.once; is_rest = e.order; first = e.nodes; others = e.others } in
    merged_others front c.balance.ensures.others
