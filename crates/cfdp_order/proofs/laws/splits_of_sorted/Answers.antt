use Rattle.cfdp_order.proofs.SortedLaws.{splits_from, splits_after}
use Rattle.cfdp_order.proofs.laws.splits_of_sorted.Goals as goal

pub returns : goal.returns
returns c side list = (splits_from side list, splits_after side list)
