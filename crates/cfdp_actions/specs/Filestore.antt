-- The filestore that filestore requests work on (CCSDS 727.0-B-5, filestore procedures): what is at each path and
-- what is staged in each of the 64 slots, and the blocks that it takes.
--     Node, Filestore             a directory or a file with its octets;  a finite map from paths to nodes, and the
--                                 staged lists
--     node_at F p, staged_in F s  what is at a path;  what is staged in a slot
--     empty_filestore             nothing exists, nothing is staged
--     blocks_of n                 the blocks of n octets
--     weight, weights, blocks     the blocks of what is at a path;  of some entries;  of the whole filestore
--     Change, changed, after      what is at a path, or is staged in a slot, from now on;  one change, and several
--                                 in turn
--     inside F p, has_entries     what is strictly below p;  whether anything is there
--     is_beside others p q        q is strictly below p, and not by way of a child of p that is among others
--     inside_beside F p others    what is so below p
--     has_beside                  whether anything is there
--     is_directory, is_file       of what is at a path
--     octets_in, file_octets_at   the octets of a file, none where there is no file
--     is_good, parent_is_good     whether a path, or its parent, is the root or a directory
--     IsRooted                    each path's parent is the root or a directory
--     tree_at F p, deepest_of     p and all that is below it, in order;  the names of the longest path of some
--                                 entries
--     deepest_beside F p others   the names of the longest path below p, but for what is below others
use Rattle.std.specs.Prelude.{ℕ, suc, ◌+◌, ◌/◌, Bool, true, false, not, ◌&&◌, ◌==◌, IsTrue, IsSome, max, List, [], ◌∷◌, Option, Some, None, length, take, sum_by, slice_index_or, slice_set, replicate}
use Rattle.std.specs.List.{list_any}
use Rattle.std.specs.FinMap as finite
use Rattle.cfdp_paths.specs.Paths.{Path, path_cmp, same_path, is_at_or_below, is_below, parent}

pub data Node : Type 0 where
  Directory : Node
  File : (octets : List ℕ) → Node

pub record Filestore : Type 0 where
  pub nodes : finite.FinMap path_cmp Node
  pub staged : List (List ℕ)

abbrev pub node_at : Filestore → Path → Option Node
node_at F p = finite.get F.nodes p

abbrev pub staged_in : Filestore → ℕ → List ℕ
staged_in F slot = slice_index_or F.staged slot []

-- nothing exists, nothing is staged in any of the 64 slots
abbrev pub empty_filestore : Filestore
empty_filestore = record { nodes = finite.empty; staged = replicate 64 [] }

-- n octets at 120 a block
unfoldable pub blocks_of : ℕ → ℕ
blocks_of n = (n + 119) / 120

-- a node takes one block, a file's octets the others
abbrev pub weight : Option Node → ℕ
weight None = 0
weight (Some Directory) = 1
weight (Some (File octets)) = 1 + blocks_of (length octets)

-- of all entries together
abbrev pub weights : List (Path × Node) → ℕ
weights [] = 0
weights (e ∷ es) = weight (Some e.1) + weights es

-- of what exists, and of the staged lists
unfoldable pub blocks : Filestore → ℕ
blocks F = weights (finite.entries F.nodes) + sum_by (λ octets. blocks_of (length octets)) F.staged

-- one change: what is at a path (None: nothing) or is staged in a slot from now on
pub data Change : Type 0 where
  Becomes : Path → Option Node → Change
  Stages : ℕ → List ℕ → Change

abbrev pub nodes_with : finite.FinMap path_cmp Node → Path → Option Node → finite.FinMap path_cmp Node
nodes_with nodes p None = finite.remove nodes p
nodes_with nodes p (Some node) = finite.insert nodes p node

abbrev pub changed : Filestore → Change → Filestore
changed F (Becomes p node) = record F { nodes = nodes_with F.nodes p node }
changed F (Stages slot octets) = record F { staged = slice_set F.staged slot octets }

-- the changes in turn
abbrev pub after : Filestore → List Change → Filestore
after F [] = F
after F (c ∷ cs) = after (changed F c) cs

-- what is strictly below p
abbrev pub inside : Filestore → Path → finite.FinMap path_cmp Node
inside F p = finite.retain_keys F.nodes (λ q. is_below q p)

abbrev pub has_entries : Filestore → Path → Bool
has_entries F p = not (finite.len (inside F p) == 0)

-- strictly below p: the child of p on the way to q is not among others
abbrev pub is_beside : List Path → Path → Path → Bool
is_beside others p q = is_below q p && not (list_any (same_path (take (suc (length p)) q)) others)

abbrev pub inside_beside : Filestore → Path → List Path → finite.FinMap path_cmp Node
inside_beside F p others = finite.retain_keys F.nodes (is_beside others p)

abbrev pub has_beside : Filestore → Path → List Path → Bool
has_beside F p others = not (finite.len (inside_beside F p others) == 0)

abbrev pub is_directory : Option Node → Bool
is_directory None = false
is_directory (Some Directory) = true
is_directory (Some (File octets)) = false

abbrev pub is_file : Option Node → Bool
is_file None = false
is_file (Some Directory) = false
is_file (Some (File octets)) = true

-- the octets of a file, none where there is no file
abbrev pub octets_in : Option Node → List ℕ
octets_in None = []
octets_in (Some Directory) = []
octets_in (Some (File octets)) = octets

abbrev pub file_octets_at : Filestore → Path → List ℕ
file_octets_at F p = octets_in (node_at F p)

-- the root or a directory
abbrev pub is_good : Filestore → Path → Bool
is_good F [] = true
is_good F (n ∷ p) = is_directory (node_at F (n ∷ p))

abbrev pub is_root : Path → Bool
is_root [] = true
is_root (n ∷ p) = false

-- the root is no path itself
abbrev pub parent_is_good : Filestore → Path → Bool
parent_is_good F p = not (is_root p) && is_good F (parent p)

abbrev pub IsRooted : Filestore → Type 0
IsRooted F = (p : Path) → IsSome (node_at F p) → IsTrue (parent_is_good F p)

-- p and all that is below it, in order
abbrev pub tree_at : Filestore → Path → List (Path × Node)
tree_at F p = finite.entries (finite.retain_keys F.nodes (λ q. is_at_or_below q p))

-- the names of the longest path
abbrev pub deepest_of : List (Path × Node) → ℕ
deepest_of [] = 0
deepest_of (e ∷ es) = max (length e.0) (deepest_of es)

-- 0 where nothing is there
abbrev pub deepest_beside : Filestore → Path → List Path → ℕ
deepest_beside F p others = deepest_of (finite.entries (inside_beside F p others))
