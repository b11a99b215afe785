use Rattle.cfdp_tree.proofs.beside.+deepest_beside.Given as goal

abbrev pub decreases-deepest_beside : goal.decreases-deepest_beside
decreases-deepest_beside l = l.order.height
