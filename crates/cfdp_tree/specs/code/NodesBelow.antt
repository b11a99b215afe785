-- The nodes of what is at a path and below it.
--     IsUnder nodes p b        a node that is at the path or below it
--     IsDeeper nodes p b       one that is below it
--     AreNodesBelow nodes p list  just these nodes, each once;  of no name, all nodes
--     path_and_node nodes b    a node after its path
--     by_path                  the order of such pairs by their paths
--     shown_node arena nodes e  what is at the node of such a pair
--     IsSoundNode arena e      its octets are there
use Rattle.std.specs.Prelude.{◌≡◌, ◌≢◌, ℕ, ◌<◌, ◌≤◌, true, List, length, All, AllPairs, Contains}
use Rattle.std.specs.declared.cmp.Ordering.{Ordering}
use Rattle.cfdp_arena.specs.Arena.{Blocks, octets_of}
use Rattle.cfdp_actions.specs.Filestore.{Node}
use Rattle.cfdp_paths.specs.Paths.{Path, path_cmp, is_at_or_below}
use Rattle.cfdp_tree.specs.code.Contents.{IsFilled}
use Rattle.cfdp_tree.specs.code.Nodes.{nodes_in}
use Rattle.cfdp_tree.specs.code.Kept.{file_of, node_of}
use Rattle.cfdp_tree.specs.code.Tree.{IsNode, path_of_node}

pub record IsUnder (nodes : Blocks) (p : Path) (b : ℕ) : Type 0 where
  pub node : IsNode nodes b
  pub below : is_at_or_below (path_of_node nodes b) p ≡ true

pub record IsDeeper (nodes : Blocks) (p : Path) (b : ℕ) : Type 0 where
  pub under : IsUnder nodes p b
  pub longer : length p < length (path_of_node nodes b)

pub record AreNodesBelow (nodes : Blocks) (p : Path) (list : List ℕ) : Type 0 where
  pub own : All (IsUnder nodes p) list
  pub all : (b : ℕ) → IsUnder nodes p b → Contains list b
  pub once : AllPairs (λ b c. b ≢ c) list

abbrev pub path_and_node : Blocks → ℕ → Path × ℕ
path_and_node nodes b = (path_of_node nodes b, b)

abbrev pub by_path : Path × ℕ → Path × ℕ → Ordering
by_path one other = path_cmp one.0 other.0

abbrev pub shown_node : Blocks → Blocks → Path × ℕ → Path × Node
shown_node arena nodes e = (e.0, node_of arena (octets_of nodes e.1))

pub record IsSoundNode (arena : Blocks) (e : Path × ℕ) : Type 0 where
  pub node : IsNode (nodes_in arena) e.1
  pub filled : IsFilled arena (file_of (octets_of (nodes_in arena) e.1))
  pub small : (file_of (octets_of (nodes_in arena) e.1)).size ≤ 7864320
