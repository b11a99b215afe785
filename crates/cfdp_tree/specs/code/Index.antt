-- The index: for each directory and name a head, which has the nodes of this directory and name, and of others. At most
-- 8 of them are in its list, which begins at the head, and in which each node names the next one. Of the others, which
-- are in no list, the head knows how many there are. A node is one of its own head alone.
--     Heads                      the heads
--     node_hash                  a number for a directory and a name: what the hasher of std's maps makes of the two
--     bucket_of directory name n   the head of the two among n of them: the high 64 bits of the product of n and the
--                                number
--     index_chain nodes n b      n nodes from b on
--     list_of nodes head         the list of a head
--     without_node b list        a list but for one node
--     head_count head            how many nodes a head has
--     HasHead nodes out n k b    the node b is one of the head k of n heads, and not the one that is out of the
--                                index
--     IsHead nodes out n k head  the nodes of the head k: those in its list, at most 8, and the rest, each once
--     count_out out              how many nodes are out of the index
--     IsIndex nodes heads out    each node is one of its head, but for the one that is out, and each head has just its
--                                nodes
use Rattle.std.specs.Prelude.{◌≡◌, ◌≢◌, ℕ, ◌+◌, ◌*◌, ◌/◌, ◌%◌, ◌^◌, ◌<◌, ◌≤◌, ◌==◌, not, List, ◌++◌, Option, Some, None, All, AllPairs, Contains, filter, fold, length, slice_index_or, sum_by}
use Rattle.std.specs.Hash as fed
use Rattle.std.specs.Hash.FoldHasher as hasher
use Rattle.cfdp_arena.specs.Arena.{Blocks, live_count}
use Rattle.cfdp_paths.specs.Paths.{Name}
use Rattle.cfdp_tree.specs.declared.index.ListHead.{ListHead}
use Rattle.cfdp_tree.specs.code.Lists as lists
use Rattle.cfdp_tree.specs.code.Tree.{IsNode, node_fields_at, name_at, home}

abbrev pub Heads : Type 0
Heads = List ListHead

-- the root adds nothing
abbrev pub node_hash : Option ℕ → Name → ℕ
node_hash None name = hasher.finish (hasher.write hasher.initial name)
node_hash (Some d) name = hasher.finish (hasher.write (fold hasher.write hasher.initial (fed.u32 d)) name)

abbrev pub bucket_of : Option ℕ → Name → ℕ → ℕ
bucket_of directory name n = n * (node_hash directory name % 2 ^ 64) / 2 ^ 64

abbrev pub index_chain : Blocks → ℕ → ℕ → List ℕ
index_chain nodes n b = lists.chain (λ c. (node_fields_at nodes c).same_head) n b

abbrev pub no_head : ListHead
no_head = record { first = 0; listed = 0; unlisted = 0 }

abbrev pub list_of : Blocks → ListHead → List ℕ
list_of nodes head = index_chain nodes head.listed head.first

abbrev pub without_node : ℕ → List ℕ → List ℕ
without_node b list = filter (λ c. not (c == b)) list

abbrev pub head_count : ListHead → ℕ
head_count head = head.listed + head.unlisted

-- a node may be out of the index
pub record HasHead (nodes : Blocks) (out : Option ℕ) (n k b : ℕ) : Type 0 where
  pub node : IsNode nodes b
  pub bucket : bucket_of (home nodes b) (name_at nodes b) n ≡ k
  pub inside : out ≢ Some b

pub record IsHead (nodes : Blocks) (out : Option ℕ) (n k : ℕ) (head : ListHead) : Type 0 where
  pub small : head.first < 65536
  pub few : head.listed ≤ 8
  -- its nodes that are in no list
  pub rest : List ℕ
  pub count : length rest ≡ head.unlisted
  -- the two are its own nodes, each once
  pub own : All (HasHead nodes out n k) (list_of nodes head ++ rest)
  pub once : AllPairs (λ b c. b ≢ c) (list_of nodes head ++ rest)
  -- and all of them
  pub all : (b : ℕ) → HasHead nodes out n k b → Contains (list_of nodes head ++ rest) b

abbrev pub count_out : Option ℕ → ℕ
count_out None = 0
count_out (Some b) = 1

pub record IsIndex (nodes : Blocks) (heads : Heads) (out : Option ℕ) : Type 0 where
  pub some : 0 < length heads
  pub each : (k : ℕ) → k < length heads → IsHead nodes out (length heads) k (slice_index_or heads k no_head)
  pub counted : sum_by head_count heads + count_out out ≡ live_count nodes
