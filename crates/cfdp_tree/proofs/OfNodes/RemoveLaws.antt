-- A node less, in which nothing exists.
--     left_path          the paths of the others
--     removed_tree       there is a tree still
--     removed_shows      what exists then
use Rattle.std.proofs.Common.{◌≡◌, ◌≢◌, ℕ, Bool, true, false, cond, Option, Some, None, refl, sym, ap, ◌∙◌, subst}
use Rattle.std.proofs.lemmas.List.{get_or-set_same, get_or-set_other}
use Rattle.std.specs.FinMap as finite
use Rattle.std.specs.FinMap.{get-remove}
use Rattle.std.specs.Prelude.{IsSome}
use Rattle.std.proofs.lemmas.Option.{none-some}
use Rattle.std.proofs.lemmas.Bool.{both_ways}
use Rattle.cfdp_paths.specs.Paths.{Path, path_cmp, same_path}
use Rattle.cfdp_paths.proofs.Comparing.{same_path-Decides, path_cmp-total}
use Rattle.cfdp_arena.specs.Arena.{Blocks, octets_at, octets_of, without_block}
use Rattle.cfdp_arena.proofs.Chains.{live_within, no_live}
use Rattle.cfdp_actions.specs.Filestore.{Node}
use Rattle.cfdp_tree.specs.code.Tree.{IsNode, home, climb, most_names, path_of_node, IsTree}
use Rattle.cfdp_tree.specs.code.Kept.{node_of, Shows}
use Rattle.cfdp_tree.proofs.OfNodes.TreeLaws.{same_node}
use Rattle.cfdp_tree.proofs.OfNodes.EntryLaws.{kept_climb, kept_ends}
use Rattle.cfdp_tree.proofs.OfNodes.OneBlockLaws.{octets_other, home_other, name_other, was_other, changed_tree}

module _ (old : Blocks) (b : ℕ) (node : IsNode old b) (tree : IsTree old) (childless : (c : ℕ) → IsNode old c → home old c ≡ Some b → ⊥) where
  abbrev new : Blocks
  new = without_block old b

  at_new : octets_at new b ≡ None
  at_new = get_or-set_same old b None None (live_within old b node)

  at_other : (c : ℕ) → c ≢ b → octets_at new c ≡ octets_at old c
  at_other c other = get_or-set_other old b c None None other

  is_other : (c : ℕ) → IsNode new c → c ≢ b
  is_other c left e = no_live _ at_new (subst (IsNode new) e left)

  abbrev Left : ℕ → Type 0
  Left c = IsNode old c × (c ≢ b)

  left : (c : ℕ) → IsNode new c → Left c
  left c stays = (was_other old new b at_other c stays (is_other c stays), is_other c stays)

  closed : (c d : ℕ) → Left c → home old c ≡ Some d → Left d
  closed c d is there = ((tree.homes c d is.0 there).node, (λ e. childless c is.0 (there ∙ ap Some e)))

  climb_left : (n c : ℕ) → Left c → climb new n c ≡ climb old n c
  climb_left = kept_climb old new Left closed (λ c is. home_other old new b at_other c is.1) (λ c is. name_other old new b at_other c is.1)

  pub removed_tree : IsTree new
  removed_tree =
      changed_tree old new b at_other tree (λ here. absurd (no_live _ at_new here)) (λ here d there. absurd (no_live _ at_new here))
      (λ here c entry. no_live _ at_new here)
      (λ c stays there was. absurd (childless c (left c stays).0 (sym (home_other old new b at_other c (is_other c stays)) ∙ there)))
      (λ c stays. (let is = left c stays in kept_ends old new Left closed
      (λ c is. home_other old new b at_other c is.1) (λ c is. name_other old new b at_other c is.1) most_names c is (tree.ends c is.0)))

  pub left_path : (c : ℕ) → IsNode old c → c ≢ b → path_of_node new c ≡ path_of_node old c
  left_path c was other = climb_left most_names c (was, other)

  module _ (arena later : Blocks) (F : finite.FinMap path_cmp Node) (shows : Shows arena old F)
      (stays : (c : ℕ) → IsNode old c → c ≢ b → node_of later (octets_of old c) ≡ node_of arena (octets_of old c)) where
    without : Bool → Option Node → Option Node
    without same here = cond same None here

    got : (q : Path) → finite.get (finite.remove F (path_of_node old b)) q ≡ without (same_path q (path_of_node old b)) (finite.get F q)
    unfolding without
    got q = get-remove path_cmp-total F (path_of_node old b) q

    each_new : (c : ℕ) (is : Left c) (same : Bool) → same_path (path_of_node new c) (path_of_node old b) ≡ same
        → without same (finite.get F (path_of_node new c)) ≡ Some (node_of later (octets_of new c))
    unfolding without
    each_new c is true e =
        absurd (is.1 (same_node old tree c b is.0 node (sym (left_path c is.0 is.1) ∙ (same_path-Decides (path_of_node new c) (path_of_node old b)).0 e)))
    each_new c is false e =
        ap (finite.get F) (left_path c is.0 is.1) ∙ shows.each c is.0
        ∙ ap Some (sym (stays c is.0 is.1) ∙ ap (node_of later) (sym (octets_other old new b at_other c is.1)))

    only_new : (q : Path) (here : Node) (same : Bool) → same_path q (path_of_node old b) ≡ same → without same (finite.get F q) ≡ Some here
        → (c : ℕ) × IsNode new c × (path_of_node new c ≡ q)
    unfolding without
    only_new q here true is e = absurd (none-some here e)
    only_new q here false is e =
        let there = shows.only q here e in
        let other : there.0 ≢ b = λ same. both_ways (same_path q (path_of_node old b)) is
        ((same_path-Decides q (path_of_node old b)).1 (sym there.2 ∙ ap (path_of_node old) same)) in
        (there.0, subst IsSome (sym (at_other there.0 other)) there.1, left_path there.0 there.1 other ∙ there.2)

    pub removed_shows : Shows later new (finite.remove F (path_of_node old b))
    removed_shows = record {
      each = (λ c now. got (path_of_node new c) ∙ each_new c (left c now) (same_path (path_of_node new c) (path_of_node old b)) refl);
      only = (λ q here e. only_new q here (same_path q (path_of_node old b)) refl (sym (got q) ∙ e));
    }
