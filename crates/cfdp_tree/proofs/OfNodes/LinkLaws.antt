-- A node's block with another link to the next node of its list.
--     relinked_name, relinked_named    its name, and that it is one
--     link_noted       the nodes of the arena in which it is written
--     link_fields, link_name   what it says there, and its name
--     link_links       each node says what it said, but for its links
--     next_here, next_other    the next node of the one, and of another node
--     relinked_entries                 where all nodes say so, they are where they were
use Rattle.std.proofs.Common.{◌≡◌, ◌≢◌, ◌≤◌, ℕ, List, [], Some, None, length, is_some, take, drop, sym, ap, ◌∙◌, subst}
use Rattle.std.proofs.lemmas.List.{get_or-set_other}
use Rattle.std.specs.Prelude.{◌==◌, unwrap_or, if◌then◌else◌}
use Rattle.cfdp_arena.specs.Arena.{Blocks, octets_at, octets_of, with_block}
use Rattle.cfdp_arena.proofs.Chains.{live_within}
use Rattle.cfdp_arena.proofs.Laws.{octets_at-with_other}
use Rattle.cfdp_tree.specs.code.NodeFields.{NodeFields, node_fields_of, node_name, kind_of_octet}
use Rattle.cfdp_tree.specs.code.Tree.{IsNode, node_fields_at, name_at, IsNamed, IsTree, unlinked, Relinked, SameEntries}
use Rattle.cfdp_paths.specs.Paths.{IsName}
use Rattle.cfdp_tree.specs.code.Block.{block_header}
use Rattle.cfdp_tree.specs.code.Nodes.{nodes_in}
use Rattle.cfdp_tree.proofs.OfNodes.TreeLaws.{node_octets}
use Rattle.cfdp_tree.proofs.OfNodes.WriteLaws.{written_noted}
use Rattle.cfdp_tree.proofs.OfNodes.OneBlockLaws.{octets_of-with_same, still_named}
use Rattle.cfdp_tree.proofs.OfNodes.EntryLaws.{at_b, kept_by}

module _ (old new : List ℕ) (link : ℕ) (fields : node_fields_of new ≡ record (node_fields_of old) { same_head = link }) (rest : drop 32 new ≡ drop 32 old) where
  pub relinked_name : node_name new ≡ node_name old
  relinked_name = (λ k. take (fields k).name_length (rest k))

  pub relinked_named : length new ≡ 128 → IsNamed old → IsNamed new
  relinked_named whole named = record {
    whole = whole;
    fits = subst (λ (r : NodeFields). r.name_length ≤ 96) (sym fields) named.fits;
    name = subst IsName (sym relinked_name) named.name;
  }

module _ (arena : Blocks) (b : ℕ) (shown new : List ℕ) (link : ℕ) (node : IsNode (nodes_in arena) b) (is : octets_at arena b ≡ Some shown)
    (fields : node_fields_of new ≡ record (node_fields_of shown) { same_head = link }) (header : block_header new ≡ block_header shown)
    (rest : drop 32 new ≡ drop 32 shown) where
  there : shown ≡ octets_of (nodes_in arena) b
  there = node_octets arena b node shown is

  pub link_noted : nodes_in (with_block arena b new) ≡ with_block (nodes_in arena) b new
  link_noted = written_noted arena b shown new node is header

  pub link_fields : node_fields_of new ≡ record (node_fields_at (nodes_in arena) b) { same_head = link }
  link_fields = fields ∙ ap (λ xs. record (node_fields_of xs) { same_head = link }) there

  pub link_name : node_name new ≡ name_at (nodes_in arena) b
  link_name = relinked_name shown new link fields rest ∙ ap node_name there

  pub link_links : IsTree (nodes_in arena) → length new ≡ 128 → Relinked (nodes_in arena) (with_block (nodes_in arena) b new)
  link_links tree whole =
      let nodes = nodes_in arena in
      record {
        nodes = kept_by nodes b new node (λ c entry. is_some entry) (sym node);
        all_fields = kept_by nodes b new node (λ c entry. unlinked (node_fields_of (unwrap_or entry []))) (ap unlinked link_fields);
        names = kept_by nodes b new node (λ c entry. node_name (unwrap_or entry [])) link_name;
        named = still_named nodes (with_block nodes b new) b (octets_at-with_other nodes b new) tree (λ _. subst IsNamed
            (sym (octets_of-with_same nodes b new (live_within nodes b node)))
            (relinked_named shown new link fields rest whole (subst IsNamed (sym there) (tree.named b node))));
      }

-- the link in a node's block, and in another one
module _ (nodes : Blocks) (b : ℕ) (block : List ℕ) (node : IsNode nodes b) where
  pub next_here : (node_fields_at (with_block nodes b block) b).same_head ≡ (node_fields_of block).same_head
  next_here = ap (λ entry. (node_fields_of (unwrap_or entry [])).same_head) (at_b nodes b block node)

  pub next_other : (c : ℕ) → b ≢ c → (node_fields_at (with_block nodes b block) c).same_head ≡ (node_fields_at nodes c).same_head
  next_other c other = ap (λ entry. (node_fields_of (unwrap_or entry [])).same_head) (get_or-set_other nodes b c (Some block) None (λ e. other (sym e)))

pub relinked_entries : (old new : Blocks) → Relinked old new → SameEntries old new
relinked_entries old new links = record {
  nodes = links.nodes;
  homes = (λ b. ap (λ (r : NodeFields). if r.parent == b then None else Some r.parent) (links.all_fields b));
  names = links.names;
  kinds = (λ b. ap (λ (r : NodeFields). kind_of_octet r.kind) (links.all_fields b));
  named = links.named;
}
