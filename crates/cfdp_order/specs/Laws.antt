-- Laws of orders, which follow from the definitions alone.
--     NoLevels               each order of no levels is one of no nodes
--     FewLevels              an order has at least `least_nodes` nodes for its levels, and one of at most 65,536 nodes
--                            has at most 22 levels
--     NodesWithin            each node of an order has links, and an order has no more nodes than there are links
--     NodesOnce              no two nodes of an order are equal, and a node is in its list exactly if it is there once
--     OtherOrdersStay        an order none of whose nodes is in a list stays, if only links of nodes in the list change
--     SplitsOfSorted         a list that is sorted for what is sought has an index at which it splits
--     SortedStays            a list whose nodes rise still does with one node more at its index, and with one node less
use Rattle.std.specs.Prelude.{◌≡◌, ◌≢◌, ℕ, ◌<◌, ◌≤◌, ◌↔◌, List, [], ◌∷◌, ◌++◌, length, All, AllPairs, Contains}
use Rattle.std.specs.declared.cmp.Ordering.{Ordering}
use Rattle.std.specs.declared.cmp.Ordering.TheVariants.{Less, Greater}
use Rattle.cfdp_order.specs.declared.links.Links.{Links}
use Rattle.cfdp_order.specs.declared.links.Order.{Order}
use Rattle.cfdp_order.specs.Orders.{nodes, times_in, IsOrder, OtherLinksStay, SplitsFrom, SplitsAfter, least_nodes}

abbrev pub NoLevels : Type 0
NoLevels = (links : List Links) (order : Order) → order.height ≡ 0 → IsOrder links order × (nodes links order ≡ [])

abbrev pub FewLevels : Type 0
FewLevels = (links : List Links) (order : Order) → IsOrder links order →
    (least_nodes order.height ≤ length (nodes links order)) × (length (nodes links order) ≤ 65536 → order.height ≤ 22)

abbrev pub NodesWithin : Type 0
NodesWithin = (links : List Links) (order : Order) → IsOrder links order →
    ((node : ℕ) → 1 ≤ times_in node (nodes links order) → node < length links)
    × (length (nodes links order) ≤ length links)

abbrev pub NodesOnce : Type 0
NodesOnce = (links : List Links) (order : Order) → IsOrder links order →
    AllPairs (λ m n. m ≢ n) (nodes links order) × ((node : ℕ) → Contains (nodes links order) node
    ↔ (times_in node (nodes links order) ≡ 1))

abbrev pub OtherOrdersStay : Type 0
OtherOrdersStay = (old new : List Links) (order : Order) (list : List ℕ) → IsOrder old order →
    OtherLinksStay old new list
    → ((node : ℕ) → 1 ≤ times_in node (nodes old order) → times_in node list ≡ 0) → IsOrder new order
    × (nodes new order ≡ nodes old order)

abbrev pub SplitsOfSorted : Type 0
SplitsOfSorted = (side : ℕ → Ordering) (list : List ℕ) →
    (AllPairs (λ m n. side n ≡ Less → side m ≡ Less) list → (before : List ℕ) × (after : List ℕ)
    × (list ≡ before ++ after) × SplitsFrom side before after)
    × (AllPairs (λ m n. side m ≡ Greater → side n ≡ Greater) list → (before : List ℕ) × (after : List ℕ)
    × (list ≡ before ++ after) × SplitsAfter side before after)

abbrev pub SortedStays : Type 0
SortedStays = (compared : ℕ → ℕ → Ordering) (before : List ℕ) (node : ℕ) (after : List ℕ) →
    (AllPairs (λ m n. compared m n ≡ Less) (before ++ after) → All (λ m. compared m node ≡ Less) before →
    All (λ n. compared node n ≡ Less) after
    → AllPairs (λ m n. compared m n ≡ Less) (before ++ node ∷ after))
    × (AllPairs (λ m n. compared m n ≡ Less) (before ++ node ∷ after) →
    AllPairs (λ m n. compared m n ≡ Less) (before ++ after))
