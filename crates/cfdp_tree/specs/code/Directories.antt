-- Nodes and the root, which is none of them, with their paths.
--     path_at nodes top         the path of a directory;  none of the root
--     IsAtPath nodes top p        it is a node or the root, and has this path
use Rattle.std.specs.Prelude.{◌≡◌, ℕ, [], Option, Some}
use Rattle.std.specs.Option.{option_map_or}
use Rattle.cfdp_arena.specs.Arena.{Blocks}
use Rattle.cfdp_paths.specs.Paths.{Path}
use Rattle.cfdp_tree.specs.code.Tree.{IsNode, path_of_node}

abbrev pub path_at : Blocks → Option ℕ → Path
path_at nodes top = option_map_or (λ d. path_of_node nodes d) top []

pub record IsAtPath (nodes : Blocks) (top : Option ℕ) (p : Path) : Type 0 where
  pub node : (d : ℕ) → top ≡ Some d → IsNode nodes d
  pub path : path_at nodes top ≡ p
