-- The entries of a directory, and of the root.
--     IsMember nodes out directory b  the node is there, and is not the one that is out
use Rattle.std.specs.Prelude.{◌≡◌, ◌≢◌, ℕ, Option, Some}
use Rattle.cfdp_arena.specs.Arena.{Blocks}
use Rattle.cfdp_tree.specs.code.Tree.{IsNode, home}

pub record IsMember (nodes : Blocks) (out directory : Option ℕ) (b : ℕ) : Type 0 where
  pub node : IsNode nodes b
  pub there : home nodes b ≡ directory
  pub listed : out ≢ Some b
