use Rattle.std.proofs.Common.{refl, ◌∙◌, arith}
use Rattle.cfdp_order.proofs.TreeLaws.{opened}
use Rattle.cfdp_order.proofs.TurnLaws.{joined_by, left_pair, next_can, next_listed, next_others, three_left}
use Rattle.cfdp_order.proofs.balancing.turn_left.Goals as goal

pub join-before-requires-clause-parts : goal.join-before-requires-clause-parts
join-before-requires-clause-parts c =
    let can = c.requires.parts in
    left_pair (three_left can (opened can.after (omega (arith, c.requires.high)) c.from.ensures c.left.ensures refl))

pub join-requires-clause-parts : goal.join-requires-clause-parts
join-requires-clause-parts c =
    let can = c.requires.parts in let o = opened can.after (omega (arith, c.requires.high)) c.from.ensures c.left.ensures c.right.ensures in
    let e = c.join-before.ensures in
    next_can (three_left can o) (joined_by c.args.left c.left.result e.order e.nodes e.others)

pub returns-clause-nodes : goal.returns-clause-nodes
returns-clause-nodes c =
    let can = c.requires.parts in let o = opened can.after (omega (arith, c.requires.high)) c.from.ensures c.left.ensures c.right.ensures in
    let e = c.join-before.ensures in
    c.join.ensures.nodes ∙ next_listed (three_left can o) (joined_by c.args.left c.left.result e.order e.nodes e.others)

pub returns-clause-most : goal.returns-clause-most
returns-clause-most c =
    let can = c.requires.parts in let o = opened can.after (omega (arith, c.requires.high)) c.from.ensures c.left.ensures c.right.ensures in
    omega (arith, o.high, o.near, c.join.ensures.height, c.join-before.ensures.height, c.requires.high)

pub returns-clause-others : goal.returns-clause-others
returns-clause-others c =
    let can = c.requires.parts in let o = opened can.after (omega (arith, c.requires.high)) c.from.ensures c.left.ensures c.right.ensures in
    let e = c.join-before.ensures in
    next_others (three_left can o) (joined_by c.args.left c.left.result e.order e.nodes e.others) c.join.ensures.others
