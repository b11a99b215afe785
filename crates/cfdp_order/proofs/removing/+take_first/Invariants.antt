use Rattle.cfdp_order.proofs.removing.+take_first.Given as goal

abbrev pub decreases-take_first : goal.decreases-take_first
decreases-take_first l = l.order.height
