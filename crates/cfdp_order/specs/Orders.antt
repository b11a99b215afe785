-- Orders: balanced binary trees of nodes, whose links are beside the nodes.
--     no_links                       the links of a node that is in no order
--     links_at links node            the links of a node
--     left_of, right_of              the orders to the left and to the right of a node, by its links
--     AreNear n m                    two heights differ by at most one
--     IsOrderTree links order list   the order is a balanced tree, and these are its nodes from left to right
--     nodes links order              the nodes of an order, from left to right
--     times_in node list             how many times a node is in a list
--     IsOrder links order            a balanced tree, in which each node is once
--     OtherLinksStay old new list    the links of nodes that are not in the list stay
--     SplitsFrom side before after   the nodes that come before the sought one, and the rest
--     SplitsAfter side before after  the nodes that do not come after the sought one, and the rest
--     least_nodes height             how many nodes a tree of this height has at least
use Rattle.std.specs.Prelude.{◌≡◌, ◌≢◌, ℕ, zero, suc, ◌+◌, ◌<◌, ◌≤◌, ◌==◌, max, cond, List, [], ◌∷◌, ◌++◌, length, slice_index_or, All}
use Rattle.std.specs.declared.cmp.Ordering.{Ordering}
use Rattle.std.specs.declared.cmp.Ordering.TheVariants.{Less, Greater}
use Rattle.cfdp_order.specs.declared.links.Links.{Links}
use Rattle.cfdp_order.specs.declared.links.Order.{Order}

abbrev pub no_links : Links
no_links = record { left = 0; right = 0; left_height = 0; right_height = 0 }

abbrev pub links_at : List Links → ℕ → Links
links_at links node = slice_index_or links node no_links

abbrev pub left_of : Links → Order
left_of around = record { root = around.left; height = around.left_height }

abbrev pub right_of : Links → Order
right_of around = record { root = around.right; height = around.right_height }

abbrev pub AreNear : ℕ → ℕ → Type 0
AreNear n m = (n ≤ m + 1) × (m ≤ n + 1)

pub data IsOrderTree (links : List Links) : Order → List ℕ → Type 0 where
  leaf : {order : Order} → order.height ≡ 0 → IsOrderTree links order []
  fork : {order : Order} {before after : List ℕ}
      → order.root < length links
      → IsOrderTree links (left_of (links_at links order.root)) before
      → IsOrderTree links (right_of (links_at links order.root)) after
      → AreNear (links_at links order.root).left_height (links_at links order.root).right_height
      → order.height ≡ max (links_at links order.root).left_height (links_at links order.root).right_height + 1
      → IsOrderTree links order (before ++ order.root ∷ after)

-- as far down as n levels
abbrev pub nodes_within : List Links → ℕ → Order → List ℕ
nodes_within links zero order = []
nodes_within links (suc n) order = cond (order.height == 0) [] (
    nodes_within links n (left_of (links_at links order.root))
    ++ order.root ∷ nodes_within links n (right_of (links_at links order.root)))

unfoldable pub nodes : List Links → Order → List ℕ
nodes links order = nodes_within links order.height order

abbrev pub times_in : ℕ → List ℕ → ℕ
times_in node [] = 0
times_in node (other ∷ rest) = cond (other == node) 1 0 + times_in node rest

pub record IsOrder (links : List Links) (order : Order) : Type 0 where
  pub tree : IsOrderTree links order (nodes links order)
  pub once : (node : ℕ) → times_in node (nodes links order) ≤ 1

pub record OtherLinksStay (old new : List Links) (list : List ℕ) : Type 0 where
  pub long : length new ≡ length old
  pub same : (other : ℕ) → times_in other list ≡ 0 → links_at new other ≡ links_at old other

pub record SplitsFrom (side : ℕ → Ordering) (before after : List ℕ) : Type 0 where
  pub less : All (λ node. side node ≡ Less) before
  pub rest : All (λ node. side node ≢ Less) after

pub record SplitsAfter (side : ℕ → Ordering) (before after : List ℕ) : Type 0 where
  pub rest : All (λ node. side node ≢ Greater) before
  pub greater : All (λ node. side node ≡ Greater) after

unfoldable pub least_nodes : ℕ → ℕ
least_nodes zero = 0
least_nodes (suc zero) = 1
least_nodes (suc (suc height)) = least_nodes (suc height) + least_nodes height + 1
