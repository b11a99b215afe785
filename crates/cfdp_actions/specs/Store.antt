-- What a store is seen as, and the words that the contracts of its calls are made of.
--     Store                     a filestore, its capacity in blocks, and whether its changes take no memory
--     free_blocks               the blocks that nothing takes
--     with_changes s changes    the store after the changes
--     empty_store blocks        nothing is in it
--     kind_of, kind_in, kind_at what is at a path: a file, a directory or nothing
--     is_file_kind              of the two kinds
--     extended octets size      zeros at the end, up to the size
--     overwritten octets at piece    the piece instead of what was at that offset
--     listing_entry, listing_of  a line of a listing, and all of them in path order
--     existing_node, existing_nodes_at the same without checksums, for a path and what is below it
use Rattle.std.specs.Prelude.{ℕ, ◌+◌, ◌-◌, Bool, true, false, List, ◌++◌, Option, Some, None, length, map, take, drop, replicate}
use Rattle.std.specs.FinMap as finite
use Rattle.cfdp_checksum.specs.Checksum.{checksum}
use Rattle.cfdp_paths.specs.Paths.{Path}
use Rattle.cfdp_actions.specs.Filestore.{Node, Directory, File, Filestore, node_at, empty_filestore, blocks, Change, after, octets_in, tree_at}
use Rattle.cfdp_actions.specs.declared.kind.Kind.{Kind}
use Rattle.cfdp_actions.specs.declared.kind.Kind.TheVariants as kind
use Rattle.cfdp_actions.specs.declared.kind.Entry.{Entry}
use Rattle.cfdp_actions.specs.declared.kind.ExistingNode.{ExistingNode}

pub record Store : Type 0 where
  pub filestore : Filestore
  pub capacity : ℕ
  pub takes_no_memory : Bool

-- the blocks that nothing takes
abbrev pub free_blocks : Store → ℕ
free_blocks s = s.capacity - blocks s.filestore

abbrev pub with_changes : Store → List Change → Store
with_changes s changes = record s { filestore = after s.filestore changes }

abbrev pub empty_store : ℕ → Bool → Store
empty_store capacity takes_no_memory = record {
  filestore = empty_filestore;
  capacity = capacity;
  takes_no_memory = takes_no_memory;
}

abbrev pub kind_of : Node → Kind
kind_of Directory = kind.Directory
kind_of (File octets) = kind.File

abbrev pub kind_in : Option Node → Option Kind
kind_in None = None
kind_in (Some node) = Some (kind_of node)

abbrev pub kind_at : Filestore → Path → Option Kind
kind_at F p = kind_in (node_at F p)

abbrev pub is_file_kind : Kind → Bool
is_file_kind kind.File = true
is_file_kind kind.Directory = false

-- zeros at the end, up to the size
abbrev pub extended : List ℕ → ℕ → List ℕ
extended octets size = octets ++ replicate (size - length octets) 0

-- the piece instead of what was at that offset
abbrev pub overwritten : List ℕ → ℕ → List ℕ → List ℕ
overwritten octets at piece = take at octets ++ piece ++ drop (at + length piece) octets

-- a directory's size and checksum are 0
abbrev pub listing_entry : Path × Node → Entry
listing_entry e = record {
  path = e.0;
  kind = kind_of e.1;
  size = length (octets_in (Some e.1));
  checksum = checksum (octets_in (Some e.1));
}

abbrev pub listing_of : Filestore → List Entry
listing_of F = map listing_entry (finite.entries F.nodes)

abbrev pub existing_node : Path × Node → ExistingNode
existing_node e = record { path = e.0; kind = kind_of e.1; size = length (octets_in (Some e.1)) }

abbrev pub existing_nodes_at : Filestore → Path → List ExistingNode
existing_nodes_at F p = map existing_node (tree_at F p)
