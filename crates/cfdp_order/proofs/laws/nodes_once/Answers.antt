use Rattle.std.proofs.Common.{arith}
use Rattle.cfdp_order.specs.Orders.{nodes}
use Rattle.cfdp_order.proofs.MemberLaws.{each_once, times_contains, contains_times}
use Rattle.cfdp_order.proofs.laws.nodes_once.Goals as goal

pub returns : goal.returns
returns c links order is = (
  each_once links order is,
  λ node. (
    λ there. omega (arith, is.once node, contains_times (nodes links order) node there),
    λ one. times_contains (nodes links order) node (omega (arith, one)),
  ),
)
