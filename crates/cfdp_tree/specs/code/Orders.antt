-- The entries of each directory, and of the root, in order of their names. They are in orders (`cfdp_order`), whose
-- links are beside the arena.
--     order_at orders directory   the order of a directory, or of the root
--     in_order orders directory   the nodes of this order, from the least name to the greatest
--     IsKnown nodes b             a node, whose name can be read
--     Rises nodes b c             the name of one node is less than that of the other
--     IsInOrders nodes orders out  each node is in the order of its directory, but for the one that is out, each order
--                                 has just its nodes, and their names rise
--     IsOrderedStore arena ways heads orders slots    a store, and its entries are in order
use Rattle.std.specs.Prelude.{◌≡◌, ◌≢◌, ℕ, List, Option, Some, None, All, AllPairs, Contains, length, slice_index_or}
use Rattle.std.specs.declared.cmp.Ordering.TheVariants.{Less}
use Rattle.cfdp_arena.specs.Arena.{Blocks, octets_of}
use Rattle.cfdp_ways.specs.declared.way.Way.{Way}
use Rattle.cfdp_order.specs.declared.links.Order.{Order}
use Rattle.cfdp_order.specs.Orders as trees
use Rattle.cfdp_paths.specs.code.Paths.{name_cmp}
use Rattle.cfdp_tree.specs.declared.orders.Orders.{Orders}
use Rattle.cfdp_tree.specs.declared.slots.Slot.{Slot}
use Rattle.cfdp_tree.specs.code.Nodes.{nodes_in}
use Rattle.cfdp_tree.specs.code.Tree.{IsNode, IsNamed, name_at, home}
use Rattle.cfdp_tree.specs.code.Entries.{IsMember}
use Rattle.cfdp_tree.specs.code.Index.{Heads}
use Rattle.cfdp_tree.specs.code.Slots.{IsStore}

abbrev pub no_order : Order
no_order = record { root = 0; height = 0 }

abbrev pub order_at : Orders → Option ℕ → Order
order_at orders None = orders.root
order_at orders (Some d) = slice_index_or orders.directories.items d no_order

abbrev pub in_order : Orders → Option ℕ → List ℕ
in_order orders directory = trees.nodes orders.links.items (order_at orders directory)

pub record IsKnown (nodes : Blocks) (b : ℕ) : Type 0 where
  pub node : IsNode nodes b
  pub named : IsNamed (octets_of nodes b)

abbrev pub Rises : Blocks → ℕ → ℕ → Type 0
Rises nodes b c = name_cmp (name_at nodes b) (name_at nodes c) ≡ Less

-- a node may be out of all orders
pub record IsInOrders (nodes : Blocks) (orders : Orders) (out : Option ℕ) : Type 0 where
  pub links : length orders.links.items ≡ length nodes
  pub directories : length orders.directories.items ≡ length nodes
  pub order : (directory : Option ℕ) → trees.IsOrder orders.links.items (order_at orders directory)
  -- of its own nodes
  pub own : (directory : Option ℕ) → All (IsMember nodes out directory) (in_order orders directory)
  pub rising : (directory : Option ℕ) → AllPairs (Rises nodes) (in_order orders directory)
  -- and of all of them
  pub all : (b : ℕ) → IsNode nodes b → out ≢ Some b → Contains (in_order orders (home nodes b)) b

pub record IsOrderedStore (arena : Blocks) (ways : List Way) (heads : Heads) (orders : Orders)
    (slots : List Slot) : Type 0 where
  pub store : IsStore arena ways heads slots
  pub ordered : IsInOrders (nodes_in arena) orders None
