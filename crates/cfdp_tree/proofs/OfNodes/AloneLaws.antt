-- What exists at the path of a node that has no entries: the node alone.
--     alone_below               the node is all that exists at its path and below it
--     alone_tree                and so it is the one entry of what exists there
use Rattle.std.proofs.Common.{◌≡◌, ℕ, ◌-◌, List, [], ◌∷◌, length, Some, None, refl, subst, arith}
use Rattle.std.proofs.lemmas.List.Sorted.{IsPermutation-refl}
use Rattle.cfdp_arena.specs.Arena.{Blocks}
use Rattle.cfdp_paths.specs.Paths.{Path}
use Rattle.cfdp_actions.specs.Filestore.{Filestore, tree_at}
use Rattle.cfdp_tree.specs.declared.orders.Orders.{Orders}
use Rattle.cfdp_tree.specs.code.Tree.{IsNode, path_of_node, IsTree}
use Rattle.cfdp_tree.specs.code.Kept.{Shows}
use Rattle.cfdp_tree.specs.code.Orders.{in_order, IsInOrders}
use Rattle.cfdp_tree.specs.code.Walk.{walks}
use Rattle.cfdp_tree.specs.code.NodesBelow.{AreNodesBelow, shown_node}
use Rattle.cfdp_tree.proofs.OfWalks.NodesBelowLaws.{nodes_from, some_node}
use Rattle.cfdp_tree.proofs.OfWalks.InOrderLaws.{found_tree}

module _ (nodes : Blocks) (tree : IsTree nodes) (orders : Orders) (ordered : IsInOrders nodes orders None) where
  pub alone_below : (b : ℕ) → IsNode nodes b → in_order orders (Some b) ≡ [] → AreNodesBelow nodes (path_of_node nodes b) (b ∷ [])
  alone_below b node none =
      subst (λ (xs : List ℕ). AreNodesBelow nodes (path_of_node nodes b) (b ∷ walks orders (8 - length (path_of_node nodes b)) xs)) none
      (nodes_from nodes tree orders ordered (Some b) (length (path_of_node nodes b)) (some_node (IsNode nodes) b node) refl)

  pub alone_tree : (b : ℕ) (p : Path) → IsNode nodes b → path_of_node nodes b ≡ p → in_order orders (Some b) ≡ [] → (arena : Blocks) (F : Filestore) →
      Shows arena nodes F.nodes
      → shown_node arena nodes (p, b) ∷ [] ≡ tree_at F p
  alone_tree b p node way none arena F shows =
      let one : List (Path × ℕ) = (path_of_node nodes b, b) ∷ [] in
      subst (λ (q : Path). shown_node arena nodes (q, b) ∷ [] ≡ tree_at F q) way
      (found_tree nodes tree (path_of_node nodes b) (b ∷ []) (alone_below b node none) one (IsPermutation-refl one)
      (λ k d low within. absurd (omega (arith, within))) arena F shows)
