use Rattle.cfdp_tree.proofs.beside.+any_beside.Given as goal

abbrev pub decreases-any_beside : goal.decreases-any_beside
decreases-any_beside l = l.order.height
