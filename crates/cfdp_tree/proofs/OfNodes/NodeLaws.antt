-- The nodes of an arena, where blocks that are none of them change.
--     kind_only, content_only     a block of contents is no node, nor is one of a run
--     nodes-kept           a block that is no node is written, taken or given back
--     node_only, nodes-noted       a node's block is written
--     nodes-written        the same of a block of a run whose header stays
use Rattle.std.proofs.Common.{◌≡◌, ℕ, List, Option, Some, None, refl, sym, ap, ◌∙◌}
use Rattle.std.proofs.Math.Seq.{map-set_same}
use Rattle.std.proofs.lemmas.List.{map-set}
use Rattle.std.specs.Prelude.{◌==◌, if◌then◌else◌, slice_set}
use Rattle.cfdp_arena.specs.Arena.{Blocks, octets_at, with_block}
use Rattle.cfdp_tree.specs.code.Block.{block_header}
use Rattle.cfdp_tree.specs.code.Nodes.{only_node, nodes_in}
use Rattle.cfdp_tree.specs.code.Runs.{header_in, IsRunPart}

pub kind_only : (block : List ℕ) → (block_header block).kind ≡ 1 → only_node (Some block) ≡ None
kind_only block kind = ap (λ k. if k == 2 then Some block else None) kind

pub content_only : (owner rank : ℕ) (entry : Option (List ℕ)) → IsRunPart owner rank entry → only_node entry ≡ None
content_only owner rank None part = refl
content_only owner rank (Some block) part = kind_only block part.kind_is

pub nodes-kept : (arena : Blocks) (block : ℕ) (entry : Option (List ℕ)) → only_node entry ≡ None → only_node (octets_at arena block) ≡ None →
    nodes_in (slice_set arena block entry) ≡ nodes_in arena
nodes-kept arena block entry new old = map-set_same only_node arena block entry None (new ∙ sym old)

pub nodes-written : (arena : Blocks) (block owner rank : ℕ) (new : List ℕ) → IsRunPart owner rank (octets_at arena block) → (block_header new).kind
    ≡ (header_in (octets_at arena block)).kind → nodes_in (with_block arena block new) ≡ nodes_in arena
nodes-written arena block owner rank new part same = nodes-kept arena block (Some new) (kind_only new (same ∙ part.kind_is))
    (content_only owner rank (octets_at arena block) part)

node_only : (block : List ℕ) → (block_header block).kind ≡ 2 → only_node (Some block) ≡ Some block
node_only block kind = ap (λ k. if k == 2 then Some block else None) kind

pub nodes-noted : (arena : Blocks) (block : ℕ) (new : List ℕ) → (block_header new).kind ≡ 2 → nodes_in (with_block arena block new)
    ≡ with_block (nodes_in arena) block new
nodes-noted arena block new kind = map-set only_node arena block (Some new) ∙ ap (λ entry. slice_set (nodes_in arena) block entry) (node_only new kind)
