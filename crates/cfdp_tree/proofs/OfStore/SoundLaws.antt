-- What is in a store, by its nodes.
--     items_are                 what an answer has
--     node_sound, found_sound   the octets of its nodes are there
--     under_nodes               what is there is nodes
--     none_under                nothing is below where nothing exists
use Rattle.std.proofs.Common.{◌≡◌, ℕ, ◌+◌, ◌≤◌, List, [], length, map, take, drop, Some, Result, Ok, Err, IfOk, refl, sym, ap, ◌∙◌, subst, arith}
use Rattle.std.proofs.lemmas.List.{take_at}
use Rattle.std.proofs.lemmas.List.Elements.{All-map, All-nil, All-weaker}
use Rattle.std.specs.Prelude.{All}
use Rattle.cfdp_paths.specs.Paths.{Path}
use Rattle.cfdp_paths.proofs.Below.{append_from_at_or_below, length-at_or_below}
use Rattle.cfdp_arena.specs.Arena.{Blocks, octets_at, octets_of}
use Rattle.cfdp_actions.specs.declared.kind.Kind.{Kind}
use Rattle.cfdp_actions.specs.declared.kind.Kind.TheVariants as kind
use Rattle.cfdp_actions.specs.Filestore.{octets_in}
use Rattle.cfdp_actions.specs.Filestore as files
use Rattle.cfdp_actions.specs.Store.{Store}
use Rattle.cfdp_ways.specs.declared.way.Way.{Way}
use Rattle.cfdp_tree.specs.declared.slots.Slot.{Slot}
use Rattle.cfdp_tree.specs.code.NodeFields.{NodeFields, node_fields_of, kind_of_octet}
use Rattle.cfdp_tree.specs.code.Contents.{IsFilled, contents_in}
use Rattle.cfdp_tree.specs.code.Nodes.{nodes_in}
use Rattle.cfdp_tree.specs.code.Tree.{IsNode, path_of_node, IsTree}
use Rattle.cfdp_tree.specs.code.Index.{Heads}
use Rattle.cfdp_tree.specs.code.Kept.{contents_of_fields, file_of, node_with, store_of}
use Rattle.cfdp_tree.specs.code.Slots.{lists_staged, IsStore}
use Rattle.cfdp_tree.specs.code.NodesBelow.{IsUnder, AreNodesBelow, path_and_node, IsSoundNode}
use Rattle.cfdp_tree.proofs.OfRuns.ContentsLaws.{length-contents}
use Rattle.cfdp_tree.proofs.OfNodes.ClimbLaws.{beginning}
use Rattle.cfdp_tree.proofs.OfStore.SeenLaws.{shows, file_small, held_at}
use Rattle.cfdp_tree.proofs.OfStore.AlikeLaws.{held_is}

-- what an answer has, in other words
pub items_are : {A E X : Type 0} (items : A → List X) (r : Result A E) (was now : List X) → IfOk r (λ v. items v ≡ was) → was ≡ now →
    IfOk r (λ v. items v ≡ now)
items_are items (Ok v) was now has same = has ∙ same
items_are items (Err e) was now has same = tt

node_octets : (arena : Blocks) (k : Kind) (fields : NodeFields) → octets_in (Some (node_with arena k (contents_of_fields k fields))) ≡ contents_in arena
    (contents_of_fields k fields)
node_octets arena kind.Directory fields = refl
node_octets arena kind.File fields = refl

module _ (arena : Blocks) (heads : Heads) (slots : List Slot) {ways : List Way} (store : IsStore arena ways heads slots) (now : Store)
    (view : store_of arena (lists_staged slots) ≡ now) where
  pub node_sound : (b : ℕ) → IsNode (nodes_in arena) b → IsSoundNode arena (path_and_node (nodes_in arena) b)
  node_sound b node =
      let nodes = nodes_in arena in let block = octets_of nodes b in
      let filled : IsFilled arena (file_of block) =
      subst (IsFilled arena) (held_at arena heads slots store now view b ∙ sym (held_is (octets_at nodes b) node))
      (store.kept.stored.filled (length (lists_staged slots) + b)) in
      let octets : files.file_octets_at now.filestore (path_of_node nodes b) ≡ contents_in arena (file_of block) =
      ap octets_in ((shows arena heads slots store now view).each b node)
      ∙ node_octets arena (kind_of_octet (node_fields_of block).kind) (node_fields_of block) in
      record {
        node = node;
        filled = filled;
        small = omega (
          arith,
          length-contents arena (file_of block) filled,
          ap (λ (xs : List ℕ). length xs) octets,
          file_small arena heads slots store now view (path_of_node nodes b),
        );
      }

  pub found_sound : (list : List ℕ) (found : List (Path × ℕ)) → All (IsNode (nodes_in arena)) list → found ≡ map (path_and_node (nodes_in arena)) list →
      All (IsSoundNode arena) found
  found_sound list found all is =
      subst (All (IsSoundNode arena)) (sym is)
      (All-map (IsSoundNode arena) (path_and_node (nodes_in arena)) list (All-weaker (IsNode (nodes_in arena))
      (λ b. IsSoundNode arena (path_and_node (nodes_in arena) b)) node_sound list all))

pub under_nodes : (nodes : Blocks) (p : Path) (list : List ℕ) → AreNodesBelow nodes p list → All (IsNode nodes) list
under_nodes nodes p list nodes_below = All-weaker (IsUnder nodes p) (IsNode nodes) (λ b under. under.node) list nodes_below.own

module _ (nodes : Blocks) (tree : IsTree nodes) where
  pub none_under : (p : Path) → 1 ≤ length p → ((b : ℕ) → IsNode nodes b → path_of_node nodes b ≡ p → ⊥) → AreNodesBelow nodes p []
  none_under p some none = record {
    own = All-nil (IsUnder nodes p);
    all = (λ b under. (let q = path_of_node nodes b in
        let entry = beginning nodes tree b (length p) under.node some (length-at_or_below q p under.below) in
        absurd (none entry.0 entry.1 (entry.2 ∙ ap (take (length p)) (append_from_at_or_below q p under.below)
        ∙ take_at p (drop (length p) q) (length p) refl))));
    once = (λ i j d less within. absurd (omega (arith, within)));
  }
