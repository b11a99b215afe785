use Rattle.cfdp_order.proofs.TreeLaws.{stays}
use Rattle.cfdp_order.proofs.laws.other_orders_stay.Goals as goal

pub returns : goal.returns
returns c old new order list is others apart =
    let same = stays old new order is others.long (λ node here. others.same node (apart node here)) in
    (same.is, same.listed)
