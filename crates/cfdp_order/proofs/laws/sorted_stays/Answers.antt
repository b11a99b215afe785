use Rattle.std.proofs.Common.{◌≡◌}
use Rattle.std.specs.declared.cmp.Ordering.TheVariants.{Less}
use Rattle.cfdp_order.proofs.SortedLaws.{pairs_with, pairs_without}
use Rattle.cfdp_order.proofs.laws.sorted_stays.Goals as goal

pub returns : goal.returns
returns c compared before node after = (pairs_with (λ m n. compared m n ≡ Less) before node after, pairs_without (λ m n. compared m n ≡ Less) before node after)
