use Rattle.cfdp_order.proofs.inserting.+insert.Given as goal

abbrev pub decreases-insert : goal.decreases-insert
decreases-insert g l = l.order.height
