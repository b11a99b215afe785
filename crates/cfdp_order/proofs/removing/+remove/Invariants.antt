use Rattle.cfdp_order.proofs.removing.+remove.Given as goal

abbrev pub decreases-remove : goal.decreases-remove
decreases-remove g l = l.order.height
