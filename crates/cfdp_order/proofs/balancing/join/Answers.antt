use Rattle.std.proofs.Common.{◌≡◌, ◌+◌, ◌∷◌, ◌++◌, set, sym, ap, subst, arith}
use Rattle.cfdp_order.specs.Orders.{nodes, IsOrder}
use Rattle.cfdp_order.proofs.TreeLaws.{joined_is, joined_nodes}
use Rattle.cfdp_order.proofs.HeightLaws.{low}
use Rattle.cfdp_order.proofs.balancing.join.Goals as goal

pub overflow_add-result : goal.overflow_add-result
overflow_add-result c =
    let links = c.args.links.now in
    omega (arith, low links c.args.left c.requires.parts.before c.requires.small, low links c.args.right c.requires.parts.after c.requires.small)

pub returns-clause-order : goal.returns-clause-order
returns-clause-order c =
    let links = c.args.links.now in let node = c.args.node in let height = c.max.result + 1 in
    let is = joined_is links c.args.left node c.args.right c.to.result c.requires.parts c.to.ensures.left c.to.ensures.right c.requires.near height
    (ap (λ m. m + 1) c.max.ensures) in
    subst (λ n. IsOrder (set links n c.to.result) (record { root = node; height = height })) (sym c.from.ensures) is

pub returns-clause-nodes : goal.returns-clause-nodes
returns-clause-nodes c =
    let links = c.args.links.now in let node = c.args.node in let height = c.max.result + 1 in
    let are = joined_nodes links c.args.left node c.args.right c.to.result c.requires.parts c.to.ensures.left c.to.ensures.right c.requires.near height
    (ap (λ m. m + 1) c.max.ensures) in
    subst (λ n. nodes (set links n c.to.result) (record { root = node; height = height }) ≡ nodes links c.args.left ++ node ∷ nodes links c.args.right)
    (sym c.from.ensures) are
