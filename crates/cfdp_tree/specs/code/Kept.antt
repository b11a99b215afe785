-- The store that an arena is, with the lists that are staged.
--     no_contents                           no octets
--     contents_of_fields, file_of, file_in  the octets of a file: by its fields, its block and its entry;  none for a
--                                           directory
--     holdings nodes staged                 the contents of all slots, and then those of all blocks
--     IsStored arena ways held              they are there, no two share a block, and the ways of their blocks lead
--                                           back
--     node_with, node_of                    what is at a node
--     existing_from arena nodes b           the nodes from b on, each with its path
--     Shows arena nodes F                   what is at a path in the map is what is at the node of this path
--     filestore_of, store_of                the filestore, and the store
--     IsKeptStore arena ways heads staged   what is true of every such store
use Rattle.std.specs.Prelude.{◌≡◌, ◌≢◌, ℕ, suc, ◌+◌, ◌<◌, ◌≤◌, true, List, [], ◌∷◌, ◌++◌, Option, Some, None, length, map, slice_index_or}
use Rattle.std.specs.FinMap as finite
use Rattle.cfdp_paths.specs.Paths.{Path, path_cmp}
use Rattle.cfdp_arena.specs.Arena.{Blocks, octets_of, free_count}
use Rattle.cfdp_actions.specs.declared.kind.Kind.{Kind}
use Rattle.cfdp_actions.specs.declared.kind.Kind.TheVariants as kind
use Rattle.cfdp_actions.specs.Filestore.{Node, Directory, File, Filestore, blocks_of, blocks}
use Rattle.cfdp_actions.specs.Store.{Store}
use Rattle.cfdp_ways.specs.declared.way.Way.{Way}
use Rattle.cfdp_tree.specs.declared.contents.Contents.{Contents}
use Rattle.cfdp_tree.specs.code.NodeFields.{NodeFields, node_fields_of, kind_of_octet}
use Rattle.cfdp_tree.specs.code.Runs.{Apart}
use Rattle.cfdp_tree.specs.code.Ways.{HasWays}
use Rattle.cfdp_tree.specs.code.Contents.{IsFilled, contents_in}
use Rattle.cfdp_tree.specs.code.Nodes.{nodes_in}
use Rattle.cfdp_tree.specs.code.Tree.{IsNode, path_of_node, IsTree}
use Rattle.cfdp_tree.specs.code.Index.{Heads, IsIndex}

abbrev pub no_contents : Contents
no_contents = record { run = record { first = 0; last = 0; count = 0 }; size = 0; sum = 0 }

abbrev pub contents_of_fields : Kind → NodeFields → Contents
contents_of_fields kind.Directory fields = no_contents
contents_of_fields kind.File fields = record {
  run = record { first = fields.first; last = fields.last; count = blocks_of fields.size };
  size = fields.size;
  sum = fields.sum;
}

abbrev pub file_of : List ℕ → Contents
file_of block = contents_of_fields (kind_of_octet (node_fields_of block).kind) (node_fields_of block)

abbrev pub file_in : Option (List ℕ) → Contents
file_in None = no_contents
file_in (Some block) = file_of block

abbrev pub holdings : Blocks → List Contents → List Contents
holdings nodes staged = staged ++ map file_in nodes

pub record IsStored (arena : Blocks) (ways : List Way) (held : List Contents) : Type 0 where
  pub filled : (i : ℕ) → IsFilled arena (slice_index_or held i no_contents)
  pub apart : (i j : ℕ) → i ≢ j → Apart (slice_index_or held i no_contents).run (slice_index_or held j no_contents).run
  pub led : (i : ℕ) → HasWays arena ways (slice_index_or held i no_contents).run

abbrev pub node_with : Blocks → Kind → Contents → Node
node_with arena kind.Directory contents = Directory
node_with arena kind.File contents = File (contents_in arena contents)

abbrev pub node_of : Blocks → List ℕ → Node
node_of arena block = node_with arena (kind_of_octet (node_fields_of block).kind) (file_of block)

abbrev pub existing_from : Blocks → Blocks → ℕ → Blocks → List (Path × Node)
existing_from arena nodes b [] = []
existing_from arena nodes b (None ∷ rest) = existing_from arena nodes (suc b) rest
existing_from arena nodes b (Some block ∷ rest) = (path_of_node nodes b, node_of arena block)
    ∷ existing_from arena nodes
    (suc b) rest

pub record Shows (arena nodes : Blocks) (map : finite.FinMap path_cmp Node) : Type 0 where
  pub each : (b : ℕ) → IsNode nodes b → finite.get map (path_of_node nodes b) ≡ Some (node_of arena (octets_of nodes b))
  pub only : (p : Path) (node : Node) → finite.get map p ≡ Some node → (b : ℕ) × IsNode nodes b ×
      (path_of_node nodes b ≡ p)

abbrev pub filestore_of : Blocks → List Contents → Filestore
filestore_of arena staged = record {
  nodes = finite.from_entries {R = path_cmp} (existing_from arena (nodes_in arena) 0 (nodes_in arena));
  staged = map (contents_in arena) staged;
}

abbrev pub store_of : Blocks → List Contents → Store
store_of arena staged = record {
  filestore = filestore_of arena staged;
  capacity = length arena;
  takes_no_memory = true;
}

pub record IsKeptStore (arena : Blocks) (ways : List Way) (heads : Heads) (staged : List Contents) : Type 0 where
  pub some : 0 < length arena
  pub small : length arena ≤ 65536
  pub slots : length staged ≡ 64
  pub tree : IsTree (nodes_in arena)
  pub index : IsIndex (nodes_in arena) heads None
  pub stored : IsStored arena ways (holdings (nodes_in arena) staged)
  -- each block that is not free is a node or has octets of a file or of a staged list
  pub counted : free_count arena + blocks (filestore_of arena staged) ≡ length arena
