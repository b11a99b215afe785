-- What only the proofs of the code need of `Orders`.
--     CanJoin links left node right  two orders, and a node that comes between them
use Rattle.std.specs.Prelude.{ℕ, ◌<◌, ◌≤◌, List, ◌∷◌, ◌++◌, length}
use Rattle.cfdp_order.specs.declared.links.Links.{Links}
use Rattle.cfdp_order.specs.declared.links.Order.{Order}
use Rattle.cfdp_order.specs.Orders.{nodes, times_in, IsOrder}

pub record CanJoin (links : List Links) (left : Order) (node : ℕ) (right : Order) : Type 0 where
  pub before : IsOrder links left
  pub after : IsOrder links right
  pub within : node < length links
  pub once : (other : ℕ) → times_in other (nodes links left ++ node ∷ nodes links right) ≤ 1
