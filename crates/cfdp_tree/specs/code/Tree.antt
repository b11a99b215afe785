-- The tree that the nodes of an arena make. A node names the directory in which it is, and so its path is the climb
-- from it to the root. A path has at most 8 names, so a climb is followed for as many nodes.
--     IsNode, IsDirectory nodes b    the block is a node;  that of a directory
--     node_fields_at, name_at        what it says, and its name
--     home nodes b                   the directory in which it is, None for the root
--     most_names                     the most names of a path
--     climb nodes n b, path_of_node  the names of the last n nodes on the way to it, and of all of them
--     Ends nodes n b                 the way to it has no more than n nodes
--     IsEntry nodes directory name b    the node is in this directory under this name
--     IsNamed block                  the block is whole, and its name is one
--     IsTree nodes                   the nodes make a tree
--     unlinked fields, Relinked old new  what it says but for its link of the index;  each node says what it said, but
--                                        for that
--     SameEntries old new            the same nodes are where they were, under their names
use Rattle.std.specs.Prelude.{◌≡◌, ℕ, suc, zero, ◌≤◌, ◌==◌, if◌then◌else◌, List, [], ◌∷◌, ◌++◌, Option, Some, None, IsSome, is_some, length}
use Rattle.std.specs.Option.{option_map_or}
use Rattle.cfdp_arena.specs.Arena.{Blocks, octets_at, octets_of}
use Rattle.cfdp_paths.specs.Paths.{Name, Path, IsName}
use Rattle.cfdp_actions.specs.declared.kind.Kind.TheVariants as kind
use Rattle.cfdp_tree.specs.code.NodeFields.{NodeFields, node_fields_of, node_name, kind_of_octet}

abbrev pub IsNode : Blocks → ℕ → Type 0
IsNode nodes b = IsSome (octets_at nodes b)

abbrev pub node_fields_at : Blocks → ℕ → NodeFields
node_fields_at nodes b = node_fields_of (octets_of nodes b)

abbrev pub name_at : Blocks → ℕ → Name
name_at nodes b = node_name (octets_of nodes b)

pub record IsDirectory (nodes : Blocks) (b : ℕ) : Type 0 where
  pub node : IsNode nodes b
  pub directory : kind_of_octet (node_fields_at nodes b).kind ≡ kind.Directory

-- a node that names itself is in the root
abbrev pub home_in : ℕ → List ℕ → Option ℕ
home_in b block = if (node_fields_of block).parent == b then None else Some (node_fields_of block).parent

abbrev pub home : Blocks → ℕ → Option ℕ
home nodes b = home_in b (octets_of nodes b)

abbrev pub climb : Blocks → ℕ → ℕ → Path
climb nodes zero b = []
climb nodes (suc n) b = option_map_or (λ d. climb nodes n d) (home nodes b) [] ++ name_at nodes b ∷ []

unfoldable pub most_names : ℕ
most_names = 8

abbrev pub path_of_node : Blocks → ℕ → Path
path_of_node nodes b = climb nodes most_names b

abbrev pub Ends : Blocks → ℕ → ℕ → Type 0
Ends nodes zero b = ⊥
Ends nodes (suc n) b = (d : ℕ) → home nodes b ≡ Some d → Ends nodes n d

pub record IsEntry (nodes : Blocks) (directory : Option ℕ) (name : Name) (b : ℕ) : Type 0 where
  pub node : IsNode nodes b
  pub there : home nodes b ≡ directory
  pub named : name_at nodes b ≡ name

pub record IsNamed (block : List ℕ) : Type 0 where
  pub whole : length block ≡ 128
  pub fits : (node_fields_of block).name_length ≤ 96
  pub name : IsName (node_name block)

pub record IsTree (nodes : Blocks) : Type 0 where
  pub named : (b : ℕ) → IsNode nodes b → IsNamed (octets_of nodes b)
  -- each is in the root or in a directory
  pub homes : (b d : ℕ) → IsNode nodes b → home nodes b ≡ Some d → IsDirectory nodes d
  pub ends : (b : ℕ) → IsNode nodes b → Ends nodes most_names b
  -- no two of one name in one directory
  pub unique : (b c : ℕ) → IsNode nodes b → IsNode nodes c → home nodes b ≡ home nodes c → name_at nodes b
      ≡ name_at nodes c → b ≡ c

pub record SameEntries (old new : Blocks) : Type 0 where
  pub nodes : (b : ℕ) → is_some (octets_at new b) ≡ is_some (octets_at old b)
  pub homes : (b : ℕ) → home new b ≡ home old b
  pub names : (b : ℕ) → name_at new b ≡ name_at old b
  pub kinds : (b : ℕ) → kind_of_octet (node_fields_at new b).kind ≡ kind_of_octet (node_fields_at old b).kind
  pub named : (b : ℕ) → IsNode new b → IsNamed (octets_of new b)

abbrev pub unlinked : NodeFields → NodeFields
unlinked fields = record fields { same_head = 0 }

pub record Relinked (old new : Blocks) : Type 0 where
  pub nodes : (b : ℕ) → is_some (octets_at new b) ≡ is_some (octets_at old b)
  pub all_fields : (b : ℕ) → unlinked (node_fields_at new b) ≡ unlinked (node_fields_at old b)
  pub names : (b : ℕ) → name_at new b ≡ name_at old b
  pub named : (b : ℕ) → IsNode new b → IsNamed (octets_of new b)
