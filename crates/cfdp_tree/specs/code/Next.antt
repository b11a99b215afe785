-- What only the proofs of the code need of `Next`.
--     IsFollowing after name    the name is greater, where another one is given
--     IsLeast nodes after list b    the least name after it is that of this node of the list
--     IsListOf nodes directory list  the nodes of the list are just the entries of the directory or the root
--     ComesAfter nodes directory p b  a node at or below the node or the root, after p
--     IsFirst nodes directory p b  the first one of these
use Rattle.std.specs.Prelude.{◌≡◌, ◌≢◌, ℕ, true, List, Option, Some, None, All, Contains}
use Rattle.std.specs.declared.cmp.Ordering.TheVariants.{Less, Greater}
use Rattle.cfdp_arena.specs.Arena.{Blocks}
use Rattle.cfdp_paths.specs.Paths.{Name, Path, path_cmp, is_at_or_below}
use Rattle.cfdp_paths.specs.code.Paths.{name_cmp}
use Rattle.cfdp_tree.specs.code.Tree.{IsNode, name_at, path_of_node}
use Rattle.cfdp_tree.specs.code.Entries.{IsMember}

abbrev pub IsFollowing : Option Name → Name → Type 0
IsFollowing None name = Unit {0}
IsFollowing (Some after) name = name_cmp after name ≡ Less

pub record IsLeast (nodes : Blocks) (after : Option Name) (list : List ℕ) (b : ℕ) : Type 0 where
  pub listed : Contains list b
  pub following : IsFollowing after (name_at nodes b)
  pub least : All (λ c. IsFollowing after (name_at nodes c) → name_cmp (name_at nodes b) (name_at nodes c) ≢ Greater)
      list

pub record IsListOf (nodes : Blocks) (directory : Option ℕ) (list : List ℕ) : Type 0 where
  pub own : All (IsMember nodes None directory) list
  pub all : (b : ℕ) → IsMember nodes None directory b → Contains list b

pub record ComesAfter (nodes : Blocks) (directory p : Path) (b : ℕ) : Type 0 where
  pub node : IsNode nodes b
  pub below : is_at_or_below (path_of_node nodes b) directory ≡ true
  pub following : path_cmp p (path_of_node nodes b) ≡ Less

pub record IsFirst (nodes : Blocks) (directory p : Path) (b : ℕ) : Type 0 where
  pub follows : ComesAfter nodes directory p b
  pub first : (c : ℕ) → ComesAfter nodes directory p c → path_cmp (path_of_node nodes b)
      (path_of_node nodes c) ≢ Greater
