-- A node's block: what is at one path of the tree, and its link of the index. Its payload begins with 24 octets of
-- numbers, the low octet first, and its name is in the last 96 octets of the block. How many nodes an index head has is
-- counted where their links begin: so the link of an index head's last node means nothing.
--     octets 8 and 9                the parent: the directory's number, its own where the root is the parent
--     octets 10 and 11              of a file the first block of its octets
--     octets 12 and 13              of a file the last block of its octets
--     octets 14 to 17               of a file how many octets it has
--     octet 18                      0 for a directory, 1 for a file
--     octet 19                      how many octets the name has
--     octets 20 and 21              the next node of the same index head
--     octets 22 to 25               nothing
--     octets 26 to 29               of a file the checksum of its octets
--     octets 30 and 31              nothing
--     octets 32 to 127              the name, and zeros
--     NodeFields, node_fields_of    what a node's block says
--     node_name                     its name
--     octet_of_kind, kind_of_octet  the octet for a file or a directory, and which of them an octet means
--     plain_fields                  what the block of a node says that has no octets and no link
use Rattle.std.specs.Prelude.{ℕ, ◌+◌, ◌*◌, suc, zero, List, slice_index_or, length, take, drop}
use Rattle.cfdp_actions.specs.declared.kind.Kind.{Kind}
use Rattle.cfdp_actions.specs.declared.kind.Kind.TheVariants as kind
use Rattle.cfdp_tree.specs.code.Block.{block_number_at}

pub record NodeFields : Type 0 where
  pub parent : ℕ
  pub first : ℕ
  pub last : ℕ
  pub size : ℕ
  pub kind : ℕ
  pub name_length : ℕ
  pub same_head : ℕ
  pub sum : ℕ

abbrev pub node_fields_of : List ℕ → NodeFields
node_fields_of block = record {
  parent = block_number_at block 8;
  first = block_number_at block 10;
  last = block_number_at block 12;
  size = block_number_at block 14 + 65536 * block_number_at block 16;
  kind = slice_index_or block 18 0;
  name_length = slice_index_or block 19 0;
  same_head = block_number_at block 20;
  sum = block_number_at block 26 + 65536 * block_number_at block 28;
}

abbrev pub node_name : List ℕ → List ℕ
node_name block = take (node_fields_of block).name_length (drop 32 block)

abbrev pub octet_of_kind : Kind → ℕ
octet_of_kind kind.Directory = 0
octet_of_kind kind.File = 1

abbrev pub kind_of_octet : ℕ → Kind
kind_of_octet zero = kind.Directory
kind_of_octet (suc octet) = kind.File

abbrev pub plain_fields : ℕ → Kind → List ℕ → NodeFields
plain_fields parent kind name = record {
  parent = parent;
  first = 0;
  last = 0;
  size = 0;
  kind = octet_of_kind kind;
  name_length = length name;
  same_head = 0;
  sum = 0;
}
