-- What is said of a path, and what is copied of a file.
--     found_of node              a directory or a file, with its size and its checksum
--     beginning octets at        where a copy from an offset on begins: after the last octet at most
--     fitting octets at buffer   how many octets there are from there on, and fit
--     octets_read node at buffer this many of a file;  none where none is there
--     with_octets octets at buffer    these at the front of the buffer
use Rattle.std.specs.Prelude.{ℕ, ◌+◌, ◌-◌, min, List, ◌++◌, drop, length, slice_range, Option, Some, None}
use Rattle.cfdp_actions.specs.Filestore.{Node, Directory, File, octets_in}
use Rattle.cfdp_actions.specs.Store.{kind_of}
use Rattle.cfdp_checksum.specs.Checksum.{checksum}
use Rattle.cfdp_tree.specs.declared.listing.Found.{Found}

abbrev pub found_of : Node → Found
found_of node = record {
  kind = kind_of node;
  size = length (octets_in (Some node));
  checksum = checksum (octets_in (Some node));
}

abbrev pub beginning : List ℕ → ℕ → ℕ
beginning octets at = min at (length octets)

abbrev pub fitting : List ℕ → ℕ → List ℕ → ℕ
fitting octets at buffer = min (length octets - beginning octets at) (length buffer)

abbrev pub octets_read : Option Node → ℕ → List ℕ → Option ℕ
octets_read None at buffer = None
octets_read (Some Directory) at buffer = None
octets_read (Some (File octets)) at buffer = Some (fitting octets at buffer)

abbrev pub with_octets : List ℕ → ℕ → List ℕ → List ℕ
with_octets octets at buffer =
    slice_range octets (beginning octets at) (beginning octets at + fitting octets at buffer)
    ++ drop (fitting octets at buffer) buffer
