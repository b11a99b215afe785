use Rattle.std.proofs.Common.{refl, ◌∙◌, arith}
use Rattle.cfdp_order.proofs.TreeLaws.{opened}
use Rattle.cfdp_order.proofs.TurnLaws.{joined_by, right_pair, then_can, then_listed, then_others, three_right}
use Rattle.cfdp_order.proofs.balancing.turn_right.Goals as goal

pub join-after-requires-clause-parts : goal.join-after-requires-clause-parts
join-after-requires-clause-parts c =
    let can = c.requires.parts in
    right_pair (three_right can (opened can.before (omega (arith, c.requires.high)) c.from.ensures refl c.right.ensures))

pub join-requires-clause-parts : goal.join-requires-clause-parts
join-requires-clause-parts c =
    let can = c.requires.parts in let o = opened can.before (omega (arith, c.requires.high)) c.from.ensures c.left.ensures c.right.ensures in
    let e = c.join-after.ensures in
    then_can (three_right can o) (joined_by c.right.result c.args.right e.order e.nodes e.others)

pub returns-clause-nodes : goal.returns-clause-nodes
returns-clause-nodes c =
    let can = c.requires.parts in let o = opened can.before (omega (arith, c.requires.high)) c.from.ensures c.left.ensures c.right.ensures in
    let e = c.join-after.ensures in
    c.join.ensures.nodes ∙ then_listed (three_right can o) (joined_by c.right.result c.args.right e.order e.nodes e.others)

pub returns-clause-most : goal.returns-clause-most
returns-clause-most c =
    let can = c.requires.parts in let o = opened can.before (omega (arith, c.requires.high)) c.from.ensures c.left.ensures c.right.ensures in
    omega (arith, o.high, o.near, c.join.ensures.height, c.join-after.ensures.height, c.requires.high)

pub returns-clause-others : goal.returns-clause-others
returns-clause-others c =
    let can = c.requires.parts in let o = opened can.before (omega (arith, c.requires.high)) c.from.ensures c.left.ensures c.right.ensures in
    let e = c.join-after.ensures in
    then_others (three_right can o) (joined_by c.right.result c.args.right e.order e.nodes e.others) c.join.ensures.others
