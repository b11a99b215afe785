use Rattle.std.proofs.Common.{◌≡◌, ◌≢◌, ℕ, List, ◌++◌}
use Rattle.std.specs.Prelude.{All}
use Rattle.std.specs.declared.cmp.Ordering.TheVariants.{Less}
use Rattle.cfdp_order.specs.Orders.{nodes, IsOrder, SplitsFrom}
use Rattle.cfdp_order.proofs.SearchLaws.{Reached}
use Rattle.cfdp_order.proofs.searching.first_from.Given as goal

abbrev pub invariant-loop-part : goal.invariant-loop-part
invariant-loop-part g l = record {
  order : IsOrder l.links l.part;
  known : All (g.S.Sought.can_compare l.sought) (nodes l.links l.part);
  reached : (before after : List ℕ) → nodes l.links l.fn.order ≡ before ++ after → SplitsFrom (g.S.Sought.side l.sought) before after
      → Reached (λ n. g.S.Sought.side l.sought n ≡ Less) (λ n. g.S.Sought.side l.sought n ≢ Less) (nodes l.links l.part) l.found after;
}

abbrev pub decreases-loop-part : goal.decreases-loop-part
decreases-loop-part g l = l.part.height
