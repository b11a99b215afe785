use Rattle.std.proofs.Common.{arith}
use Rattle.cfdp_order.specs.Orders.{nodes}
use Rattle.cfdp_order.proofs.Counts.{times_middle}
use Rattle.cfdp_order.proofs.HeightLaws.{low}
use Rattle.cfdp_order.proofs.balancing.balance.Goals as goal

pub overflow_add-right : goal.overflow_add-right
overflow_add-right c = omega (arith, low c.args.links.now c.args.right c.requires.parts.after c.requires.small)

pub overflow_add-left : goal.overflow_add-left
overflow_add-left c = omega (arith, low c.args.links.now c.args.left c.requires.parts.before c.requires.small)

pub returns-else-left-right-clause-others : goal.returns-else-left-right-clause-others
returns-else-left-right-clause-others c =
    let links = c.args.links.now in let others = c.join.ensures.others in
    record {
      long = others.long;
      same = (λ n none. others.same n (omega (arith, none, times_middle n (nodes links c.args.left) c.args.node (nodes links c.args.right))));
    }
