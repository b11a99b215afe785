-- A node more.
--     added_path, kept_path     its path, and those of the others
--     added_tree                there is a tree still
--     added_shows               what exists then
use Rattle.std.proofs.Common.{◌≡◌, ◌≢◌, ℕ, suc, ◌<◌, ◌≤◌, List, [], ◌∷◌, ◌++◌, length, Option, Some, None, refl, sym, ap, ◌∙◌, subst, inl, inr}
use Rattle.std.proofs.lemmas.Bool.{cases_eq}
use Rattle.std.specs.FinMap as finite
use Rattle.std.specs.Option.{option_map_or}
use Rattle.std.specs.Prelude.{IsSome}
use Rattle.cfdp_paths.specs.Paths.{path_cmp}
use Rattle.cfdp_arena.specs.Arena.{Blocks, octets_at, octets_of, with_block}
use Rattle.cfdp_arena.proofs.Laws.{octets_at-with_same, octets_at-with_other}
use Rattle.cfdp_actions.specs.Filestore.{Node}
use Rattle.cfdp_tree.specs.code.NodeFields.{node_name}
use Rattle.cfdp_tree.specs.code.Tree.{IsNode, IsDirectory, name_at, home_in, home, climb, most_names, path_of_node, Ends, IsEntry, IsNamed, IsTree}
use Rattle.cfdp_tree.specs.code.Directories.{path_at}
use Rattle.cfdp_tree.specs.code.Kept.{node_of, Shows}
use Rattle.cfdp_tree.proofs.OfStore.ShowLaws.{put_shows}
use Rattle.cfdp_tree.proofs.OfNodes.EntryLaws.{kept_climb, kept_ends}
use Rattle.cfdp_tree.proofs.OfNodes.ClimbLaws.{most_is, ends_by_length, path_by_home}
use Rattle.cfdp_tree.proofs.OfNodes.OneBlockLaws.{octets_of-with_same, octets_other, home_other, name_other, was_other, changed_tree}
use Rattle.cfdp_arena.proofs.Chains.{no_live}

module _ (old : Blocks) (b : ℕ) (block : List ℕ) (within : b < length old) (free : octets_at old b ≡ None) (tree : IsTree old) (named : IsNamed block)
    (good : (d : ℕ) → home_in b block ≡ Some d → IsDirectory old d) (few : length (path_at old (home_in b block)) ≤ 7)
    (fresh : (c : ℕ) → IsEntry old (home_in b block) (node_name block) c → ⊥) where
  abbrev new : Blocks
  new = with_block old b block

  others : (c : ℕ) → c ≢ b → octets_at new c ≡ octets_at old c
  others = octets_at-with_other old b block

  octets_new : octets_of new b ≡ block
  octets_new = octets_of-with_same old b block within

  is_other : (c : ℕ) → IsNode old c → c ≢ b
  is_other c node e = no_live _ free (subst (IsNode old) e node)

  home_new : home new b ≡ home_in b block
  home_new = ap (home_in b) octets_new

  name_new : name_at new b ≡ node_name block
  name_new = ap node_name octets_new

  closed : (c d : ℕ) → IsNode old c → home old c ≡ Some d → IsNode old d
  closed c d node there = (tree.homes c d node there).node

  climb_kept : (n c : ℕ) → IsNode old c → climb new n c ≡ climb old n c
  climb_kept = kept_climb old new (IsNode old) closed
      (λ c node. home_other old new b others c (is_other c node)) (λ c node. name_other old new b others c (is_other c node))

  ends_kept : (n c : ℕ) → IsNode old c → Ends old n c → Ends new n c
  ends_kept = kept_ends old new (IsNode old) closed
      (λ c node. home_other old new b others c (is_other c node)) (λ c node. name_other old new b others c (is_other c node))

  ends_here : Ends new (suc 7) b
  ends_here d there =
      let at = sym home_new ∙ there in
      let directory = good d at in
      let long : length (climb old most_names d) ≤ 7 = subst (λ p. length (option_map_or (λ x. path_of_node old x) p []) ≤ 7) at few in
      ends_kept 7 d directory.node (ends_by_length old most_names 7 d (tree.ends d directory.node) long)

  ends_new : (c : ℕ) → IsNode new c → Ends new most_names c
  ends_new c node = elim (cases_eq c b) [
    | inl e ↦ subst (λ x. Ends new most_names x) (sym e) (subst (λ n. Ends new n b) (sym most_is) ends_here)
    | inr other ↦ (let was = was_other old new b others c node other in ends_kept most_names c was (tree.ends c was))
  ]

  pub added_tree : IsTree new
  added_tree =
      changed_tree old new b others tree (λ _. subst IsNamed (sym octets_new) named) (λ _ d there. good d (sym home_new ∙ there))
      (λ _ c entry. fresh c (record { node = entry.node; there = entry.there ∙ home_new; named = entry.named ∙ name_new }))
      (λ c node there was. absurd (no_live _ free was.node)) ends_new

  pub kept_path : (c : ℕ) → IsNode old c → path_of_node new c ≡ path_of_node old c
  kept_path c node = climb_kept most_names c node

  here : IsNode new b
  here = subst IsSome (sym (octets_at-with_same old b block within)) refl

  above : (x : Option ℕ) → ((d : ℕ) → x ≡ Some d → IsNode old d) → path_at new x ≡ path_at old x
  above None nodes = refl
  above (Some d) nodes = kept_path d (nodes d refl)

  pub added_path : path_of_node new b ≡ path_at old (home_in b block) ++ node_name block ∷ []
  added_path =
      path_by_home new added_tree b here
      ∙ (λ i. path_at new (home_new i) ++ name_new i ∷ [])
      ∙ ap (λ p. p ++ node_name block ∷ []) (above (home_in b block) (λ d there. (good d there).node))

  module _ (arena later : Blocks) (F : finite.FinMap path_cmp Node) (shows : Shows arena old F)
      (stays : (c : ℕ) → IsNode old c → node_of later (octets_of old c) ≡ node_of arena (octets_of old c)) where
    pub added_shows : Shows later new (finite.insert F (path_of_node new b) (node_of later block))
    added_shows =
        put_shows arena later old new added_tree b here (path_of_node new b) refl (node_of later block) (ap (node_of later) octets_new) F shows
        (was_other old new b others)
        (λ c was other. (subst IsSome (sym (others c other)) was, kept_path c was, ap (node_of later) (octets_other old new b others c other) ∙ stays c was))
        (λ c was _. is_other c was)
