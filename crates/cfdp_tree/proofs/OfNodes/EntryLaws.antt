-- Nodes that are where they were.
--     kept_climb, kept_ends      the way to a node whose directories have stayed
--     same_paths, same_tree      all nodes have stayed
--     at_b, kept_by, same_entries     the block of one of them is written
use Rattle.std.proofs.Common.{◌≡◌, ℕ, suc, zero, List, [], ◌∷◌, ◌++◌, Option, Some, None, is_some, refl, sym, ap, ◌∙◌, subst, inl, inr}
use Rattle.std.proofs.lemmas.List.{get_or-set_same, get_or-set_other}
use Rattle.std.proofs.lemmas.Bool.{cases_eq}
use Rattle.std.specs.Option.{option_map_or}
use Rattle.std.specs.Prelude.{unwrap_or}
use Rattle.cfdp_arena.specs.Arena.{Blocks, octets_at, with_block}
use Rattle.cfdp_arena.proofs.Chains.{live_within}
use Rattle.cfdp_arena.proofs.Laws.{octets_at-with_other}
use Rattle.cfdp_tree.specs.code.NodeFields.{node_fields_of, node_name, kind_of_octet}
use Rattle.cfdp_tree.specs.code.Tree.{IsNode, node_fields_at, name_at, home_in, home, climb, most_names, path_of_node, Ends, IsNamed, IsTree, SameEntries}
use Rattle.cfdp_tree.proofs.OfNodes.OneBlockLaws.{octets_of-with_same, still_named}

-- P is of the nodes that stayed, and of their directories
module _ (old new : Blocks) (P : ℕ → Type 0) (closed : (b d : ℕ) → P b → home old b ≡ Some d → P d)
    (homes : (b : ℕ) → P b → home new b ≡ home old b) (names : (b : ℕ) → P b → name_at new b ≡ name_at old b) where
  above_kept : (n : ℕ) → ((d : ℕ) → P d → climb new n d ≡ climb old n d) → (x : Option ℕ) → ((d : ℕ) → x ≡ Some d → P d)
      → option_map_or (λ d. climb new n d) x [] ≡ option_map_or (λ d. climb old n d) x []
  above_kept n below None stayed = refl
  above_kept n below (Some d) stayed = below d (stayed d refl)

  pub kept_climb : (n b : ℕ) → P b → climb new n b ≡ climb old n b
  kept_climb zero b stayed = refl
  kept_climb (suc n) b stayed =
      (λ k. option_map_or (λ d. climb new n d) (homes b stayed k) [] ++ names b stayed k ∷ [])
      ∙ ap (λ p. p ++ name_at old b ∷ []) (above_kept n (kept_climb n) (home old b) (λ d e. closed b d stayed e))

  pub kept_ends : (n b : ℕ) → P b → Ends old n b → Ends new n b
  kept_ends zero b stayed ends = ends
  kept_ends (suc n) b stayed ends =
      (λ d there. (let was = sym (homes b stayed) ∙ there in kept_ends n d (closed b d stayed was) (ends d was)))

module _ (old new : Blocks) (same : SameEntries old new) where
  was_node : (b : ℕ) → IsNode new b → IsNode old b
  was_node b node = sym (same.nodes b) ∙ node

  pub same_paths : (b : ℕ) → path_of_node new b ≡ path_of_node old b
  same_paths b = kept_climb old new (λ _. Unit {0}) (λ _ _ _ _. tt) (λ c _. same.homes c) (λ c _. same.names c) most_names b tt

  pub same_tree : IsTree old → IsTree new
  same_tree tree = record {
    named = same.named;
    homes = (λ b d node there. (let was = tree.homes b d (was_node b node) (sym (same.homes b) ∙ there) in
        record { node = same.nodes d ∙ was.node; directory = same.kinds d ∙ was.directory }));
    ends = (λ b node. kept_ends old new (λ _. Unit {0}) (λ _ _ _ _. tt) (λ c _. same.homes c) (λ c _. same.names c) most_names b tt
        (tree.ends b (was_node b node)));
    unique = (λ b c node other there named. tree.unique b c (was_node b node) (was_node c other)
        (sym (same.homes b) ∙ there ∙ same.homes c) (sym (same.names b) ∙ named ∙ same.names c));
  }

-- the block of a node is written
module _ (old : Blocks) (b : ℕ) (block : List ℕ) (node : IsNode old b) where
  pub at_b : octets_at (with_block old b block) b ≡ Some block
  at_b = get_or-set_same old b (Some block) None (live_within old b node)

  -- what a word says of each block, where it says of the new one what it said of the old one
  pub kept_by : {X : Type 0} (word : ℕ → Option (List ℕ) → X) → word b (Some block) ≡ word b (octets_at old b)
      → (c : ℕ) → word c (octets_at (with_block old b block) c) ≡ word c (octets_at old c)
  kept_by word is c = elim (cases_eq c b) [
    | inl e ↦ (λ k. word (e k) (octets_at (with_block old b block) (e k))) ∙ ap (word b) at_b ∙ is ∙ (λ k. word (sym e k) (octets_at old (sym e k)))
    | inr other ↦ ap (word c) (get_or-set_other old b c (Some block) None other)
  ]

  pub same_entries : IsTree old → IsNamed block → home_in b block ≡ home old b → node_name block ≡ name_at old b
      → kind_of_octet (node_fields_of block).kind ≡ kind_of_octet (node_fields_at old b).kind → SameEntries old (with_block old b block)
  same_entries tree named there name kind = record {
    nodes = kept_by (λ c entry. is_some entry) (sym node);
    homes = kept_by (λ c entry. home_in c (unwrap_or entry [])) there;
    names = kept_by (λ c entry. node_name (unwrap_or entry [])) name;
    kinds = kept_by (λ c entry. kind_of_octet (node_fields_of (unwrap_or entry [])).kind) kind;
    named = still_named old (with_block old b block) b (octets_at-with_other old b block) tree
        (λ _. subst IsNamed (sym (octets_of-with_same old b block (live_within old b node))) named);
  }
