-- What is at a node and below it, and below several nodes, in path order: a directory before its entries, and these in
-- order of their names.
--     walk orders n b          the node and what is below it, as far down as n names
--     walks orders n list      the same of each node of a list
--     walks_at orders depth list    all of it, where each node of the list has a path of `depth` names
--     walk_from orders depth directory  all at and below a node or the root, whose path has `depth` names
--     most_names_in nodes list  the number of names of the longest path of some nodes
--     IsAtDepth nodes depth b a node whose path has `depth` names
--     AreAtDepth nodes depth list each is such a node
use Rattle.std.specs.Prelude.{◌≡◌, ℕ, suc, zero, ◌-◌, max, List, [], ◌∷◌, Option, Some, None, length, All}
use Rattle.std.specs.List.{flat_map}
use Rattle.cfdp_arena.specs.Arena.{Blocks}
use Rattle.cfdp_tree.specs.declared.orders.Orders.{Orders}
use Rattle.cfdp_tree.specs.code.Tree.{IsNode, path_of_node}
use Rattle.cfdp_tree.specs.code.Orders.{in_order}

abbrev pub walk : Orders → ℕ → ℕ → List ℕ
walk orders zero b = []
walk orders (suc n) b = b ∷ flat_map (walk orders n) (in_order orders (Some b))

abbrev pub walks : Orders → ℕ → List ℕ → List ℕ
walks orders n list = flat_map (walk orders n) list

-- a path has 8 names at most
abbrev pub walks_at : Orders → ℕ → List ℕ → List ℕ
walks_at orders depth list = walks orders (9 - depth) list

abbrev pub walk_from : Orders → ℕ → Option ℕ → List ℕ
walk_from orders depth None = walks orders (8 - depth) (in_order orders None)
walk_from orders depth (Some b) = b ∷ walks orders (8 - depth) (in_order orders (Some b))

abbrev pub most_names_in : Blocks → List ℕ → ℕ
most_names_in nodes [] = 0
most_names_in nodes (b ∷ rest) = max (length (path_of_node nodes b)) (most_names_in nodes rest)

pub record IsAtDepth (nodes : Blocks) (depth b : ℕ) : Type 0 where
  pub node : IsNode nodes b
  pub names : length (path_of_node nodes b) ≡ depth

abbrev pub AreAtDepth : Blocks → ℕ → List ℕ → Type 0
AreAtDepth nodes depth list = All (IsAtDepth nodes depth) list
