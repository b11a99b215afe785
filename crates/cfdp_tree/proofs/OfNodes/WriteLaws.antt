-- A node's block is written, taken or given back.
--     written_noted, written_octets, written_nodes     the nodes then, where it is written
--     created_octets, created_nodes                    where it is taken
--     deleted_noted                                    where it is given back
--     home_written                                     where a node is by what it says
use Rattle.std.proofs.Common.{◌≡◌, ◌≢◌, ℕ, ◌<◌, List, Option, Some, None, length, refl, sym, ap, ◌∙◌, arith}
use Rattle.std.proofs.lemmas.Bool.{eq-eqb, ne_eqb}
use Rattle.std.proofs.lemmas.List.{length-map, map-set}
use Rattle.std.specs.Prelude.{◌==◌, if◌then◌else◌, unwrap_or}
use Rattle.cfdp_arena.specs.Arena.{Blocks, octets_at, octets_of, with_block, without_block}
use Rattle.cfdp_arena.proofs.Chains.{live_within}
use Rattle.cfdp_tree.specs.code.Block.{BlockHeader, block_header}
use Rattle.cfdp_tree.specs.code.Nodes.{only_node, nodes_in}
use Rattle.cfdp_tree.specs.code.Tree.{IsNode}
use Rattle.cfdp_tree.proofs.OfNodes.OneBlockLaws.{octets_of-with_same}
use Rattle.cfdp_tree.proofs.OfNodes.NodeLaws.{nodes-noted}
use Rattle.cfdp_tree.proofs.OfNodes.TreeLaws.{node_kind, node_live}

module _ (arena : Blocks) (b : ℕ) (new : List ℕ) (within : b < length arena) (kind : (block_header new).kind ≡ 2) where
  pub created_octets : octets_of (nodes_in (with_block arena b new)) b ≡ new
  created_octets =
      ap (λ nodes. octets_of nodes b) (nodes-noted arena b new kind)
      ∙ octets_of-with_same (nodes_in arena) b new (omega (arith, length-map arena only_node))

  pub created_nodes : nodes_in (with_block arena b new) ≡ with_block (nodes_in arena) b (octets_of (nodes_in (with_block arena b new)) b)
  created_nodes = nodes-noted arena b new kind ∙ ap (with_block (nodes_in arena) b) (sym created_octets)

module _ (arena : Blocks) (b : ℕ) (shown new : List ℕ) (node : IsNode (nodes_in arena) b) (is : octets_at arena b ≡ Some shown) (header : block_header new
    ≡ block_header shown) where
  kind : (block_header new).kind ≡ 2
  kind = ap (λ (h : BlockHeader). h.kind) header ∙ node_kind arena b node shown is

  pub written_noted : nodes_in (with_block arena b new) ≡ with_block (nodes_in arena) b new
  written_noted = nodes-noted arena b new kind

  pub written_octets : octets_of (nodes_in (with_block arena b new)) b ≡ new
  written_octets = created_octets arena b new (live_within arena b (node_live arena b node)) kind

  pub written_nodes : nodes_in (with_block arena b new) ≡ with_block (nodes_in arena) b (octets_of (nodes_in (with_block arena b new)) b)
  written_nodes = created_nodes arena b new (live_within arena b (node_live arena b node)) kind

pub deleted_noted : (arena : Blocks) (b : ℕ) → nodes_in (without_block arena b) ≡ without_block (nodes_in arena) b
deleted_noted arena b = map-set only_node arena b None

pub home_written : (directory : Option ℕ) (b : ℕ) → directory ≢ Some b → (if unwrap_or directory b == b then None else Some (unwrap_or directory b)) ≡ directory
home_written None b apart = ap (λ yes. if yes then None else Some b) (eq-eqb b b refl)
home_written (Some d) b apart = ap (λ yes. if yes then None else Some d) (ne_eqb d b (λ e. apart (ap Some e)))
