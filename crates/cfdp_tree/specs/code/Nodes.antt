-- The nodes of an arena: its blocks that are each a file or a directory. What the tree is, but for the octets of
-- its files, is said of them alone; and what changes octets changes none of them.
--     is_node block       the block is of the kind of a node
--     only_node entry     the entry where it is a node's block, else none
--     nodes_in arena      the arena with its nodes alone
use Rattle.std.specs.Prelude.{ℕ, ◌==◌, Bool, List, Option, Some, None, if◌then◌else◌, map}
use Rattle.cfdp_arena.specs.Arena.{Blocks}
use Rattle.cfdp_tree.specs.code.Block.{block_header, kind_octet}
use Rattle.cfdp_tree.specs.declared.header.BlockKind.TheVariants as kind

abbrev pub is_node : List ℕ → Bool
is_node block = (block_header block).kind == kind_octet kind.Node

abbrev pub only_node : Option (List ℕ) → Option (List ℕ)
only_node None = None
only_node (Some block) = if is_node block then Some block else None

abbrev pub nodes_in : Blocks → Blocks
nodes_in arena = map only_node arena
