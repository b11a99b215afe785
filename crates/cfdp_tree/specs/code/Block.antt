-- A block of the arena: a header of 8 octets, and a payload of 120 octets after it. A number in the header has two
-- octets, the low one first.
--     octets 0 and 1    the number of the next block of the run
--     octets 2 and 3    the owner: the number of the first block of the run, for a node its own number
--     octets 4 and 5    the rank: how many blocks of the run come before this one, for a node 0
--     octet 6           the kind: what the block is for
--     octet 7           nothing
--     block_number_at octets offset  a number in the block;  with_number: the block with another one there
--     kind_octet                the octet of a kind
--     BlockHeader, block_header      what a header says
--     payload                   the octets after the header
--     tagged, linked            a header that is given an owner, a rank and a kind;  a next block
use Rattle.std.specs.Prelude.{ℕ, ◌+◌, ◌*◌, ◌/◌, ◌%◌, List, slice_index_or, slice_set, drop}
use Rattle.cfdp_tree.specs.declared.header.BlockKind.{BlockKind}
use Rattle.cfdp_tree.specs.declared.header.BlockKind.TheVariants.{Content, Node}

abbrev pub block_number_at : List ℕ → ℕ → ℕ
block_number_at octets offset = slice_index_or octets offset 0 + 256 * slice_index_or octets (offset + 1) 0

abbrev pub with_number : List ℕ → ℕ → ℕ → List ℕ
with_number octets offset number = slice_set (slice_set octets offset (number % 256)) (offset + 1) (number / 256)

abbrev pub kind_octet : BlockKind → ℕ
kind_octet Content = 1
kind_octet Node = 2

pub record BlockHeader : Type 0 where
  pub next : ℕ
  pub owner : ℕ
  pub rank : ℕ
  pub kind : ℕ

abbrev pub block_header : List ℕ → BlockHeader
block_header octets = record {
  next = block_number_at octets 0;
  owner = block_number_at octets 2;
  rank = block_number_at octets 4;
  kind = slice_index_or octets 6 0;
}

abbrev pub payload : List ℕ → List ℕ
payload octets = drop 8 octets

abbrev pub tagged : BlockHeader → ℕ → ℕ → BlockKind → BlockHeader
tagged header owner rank kind = record header { owner = owner; rank = rank; kind = kind_octet kind }

abbrev pub linked : BlockHeader → ℕ → BlockHeader
linked header next = record header { next = next }
