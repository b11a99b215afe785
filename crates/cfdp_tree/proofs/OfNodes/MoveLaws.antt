-- A node with all that is below it, moved: one block is written.
--     moved_tree        there is a tree still
--     moved_path        what was below the old path is below the new one
--     stayed_path       the others are where they were
use Rattle.std.proofs.Common.{◌≡◌, ◌≢◌, ℕ, zero, suc, ◌+◌, ◌-◌, ◌≤◌, Bool, true, false, List, [], ◌∷◌, ◌++◌, length, length-append, take, drop, append_assoc, Option, Some, None, is_some, refl, sym, ap, ◌∙◌, subst, inl, inr, arith}
use Rattle.std.proofs.lemmas.List.{take_at, drop_all, drop-append-le, length-drop, append-nil}
use Rattle.std.proofs.lemmas.Bool.{both_ways, cases_eq}
use Rattle.std.specs.Option.{option_map_or}
use Rattle.std.specs.Prelude.{unwrap_or}
use Rattle.std.proofs.lemmas.Option.{same_Some}
use Rattle.cfdp_paths.specs.Paths.{Name, Path, parent, is_at_or_below, rebased}
use Rattle.cfdp_paths.proofs.Below.{at_or_below-itself, at_or_below-trans, at_or_below-append, length-at_or_below, is_below-Decides, below_parent, parent-take}
use Rattle.cfdp_arena.specs.Arena.{Blocks, octets_at, octets_of, with_block}
use Rattle.cfdp_arena.proofs.Chains.{live_within}
use Rattle.cfdp_arena.proofs.Laws.{octets_at-with_other}
use Rattle.cfdp_tree.specs.code.NodeFields.{node_fields_of, node_name, kind_of_octet}
use Rattle.cfdp_tree.specs.code.Tree.{IsNode, IsDirectory, node_fields_at, name_at, home_in, home, climb, most_names, path_of_node, Ends, IsEntry, IsNamed, IsTree}
use Rattle.cfdp_tree.specs.code.Directories.{path_at}
use Rattle.cfdp_tree.proofs.OfNodes.TreeLaws.{same_node}
use Rattle.cfdp_tree.proofs.OfNodes.OneBlockLaws.{octets_of-with_same, home_other, name_other, changed_tree}
use Rattle.cfdp_tree.proofs.OfNodes.EntryLaws.{kept_climb, kept_ends, kept_by}
use Rattle.cfdp_tree.proofs.OfNodes.ClimbLaws.{most_is, ends_by_length, climb_same, path_by_home}

-- what a path without its last name is below, where the path is
front_below : (x : Path) (n : Name) (p : Path) → is_at_or_below (x ++ n ∷ []) p ≡ true → x ++ n ∷ [] ≢ p → is_at_or_below x p ≡ true
front_below x n p below other =
    let whole : Path = x ++ n ∷ [] in
    let long : length whole - 1 ≡ length x = omega (arith, length-append x (n ∷ [])) in
    let front : parent whole ≡ x = parent-take whole ∙ ap (λ k. take k whole) long ∙ take_at x (n ∷ []) (length x) refl in
    ap (λ y. is_at_or_below y p) (sym front) ∙ below_parent whole p ((is_below-Decides whole p).1 (below, other))

module _ (old : Blocks) (b : ℕ) (block : List ℕ) (node : IsNode old b) (tree : IsTree old) (named : IsNamed block)
    (kind : kind_of_octet (node_fields_of block).kind ≡ kind_of_octet (node_fields_at old b).kind)
    (good : (d : ℕ) → home_in b block ≡ Some d → IsDirectory old d)
    (p q : Path) (p_is : path_of_node old b ≡ p) (q_is : path_at old (home_in b block) ++ node_name block ∷ [] ≡ q) (apart : is_at_or_below q p ≡ false)
    (fresh : (c : ℕ) → IsEntry old (home_in b block) (node_name block) c → ⊥)
    (fits : (c : ℕ) → IsNode old c → is_at_or_below (path_of_node old c) p ≡ true → length (rebased p q (path_of_node old c)) ≤ 8) where
  abbrev new : Blocks
  new = with_block old b block

  octets_new : octets_of new b ≡ block
  octets_new = octets_of-with_same old b block (live_within old b node)

  others : (c : ℕ) → c ≢ b → octets_at new c ≡ octets_at old c
  others = octets_at-with_other old b block

  somes : (c : ℕ) → is_some (octets_at new c) ≡ is_some (octets_at old c)
  somes = kept_by old b block node (λ c entry. is_some entry) (sym node)

  kinds : (c : ℕ) → kind_of_octet (node_fields_at new c).kind ≡ kind_of_octet (node_fields_at old c).kind
  kinds = kept_by old b block node (λ c entry. kind_of_octet (node_fields_of (unwrap_or entry [])).kind) kind

  home_new : home new b ≡ home_in b block
  home_new = ap (home_in b) octets_new

  name_new : name_at new b ≡ node_name block
  name_new = ap node_name octets_new

  -- what is not at or below the old path
  record Stays (c : ℕ) : Type 0 where
    there : IsNode old c
    outside : is_at_or_below (path_of_node old c) p ≡ false

  under_home : (c d : ℕ) → IsNode old c → home old c ≡ Some d → path_of_node old c ≡ path_of_node old d ++ name_at old c ∷ []
  under_home c d was there = path_by_home old tree c was ∙ ap (λ x. path_at old x ++ name_at old c ∷ []) there

  -- what is in a directory at or below a path is below it
  stays_by : (x : Path) (n : Name) → is_at_or_below (x ++ n ∷ []) p ≡ false → is_at_or_below x p ≡ false
  stays_by x n outside = by_case (is_at_or_below x p) refl
    where
      by_case : (below : Bool) → is_at_or_below x p ≡ below → is_at_or_below x p ≡ false
      by_case false e = e
      by_case true e = absurd (both_ways _ outside (at_or_below-trans (x ++ n ∷ []) x p (at_or_below-append x (n ∷ [])) e))

  closed : (c d : ℕ) → Stays c → home old c ≡ Some d → Stays d
  closed c d stays there = record {
    there = (tree.homes c d stays.there there).node;
    outside = stays_by (path_of_node old d) (name_at old c) (ap (λ x. is_at_or_below x p) (sym (under_home c d stays.there there)) ∙ stays.outside);
  }

  is_other : (c : ℕ) → Stays c → c ≢ b
  is_other c stays e = both_ways _ stays.outside (ap (λ x. is_at_or_below x p) (ap (path_of_node old) e ∙ p_is) ∙ at_or_below-itself p)

  climb_stays : (n c : ℕ) → Stays c → climb new n c ≡ climb old n c
  climb_stays = kept_climb old new Stays closed
      (λ c stays. home_other old new b others c (is_other c stays)) (λ c stays. name_other old new b others c (is_other c stays))

  ends_stays : (n c : ℕ) → Stays c → Ends old n c → Ends new n c
  ends_stays = kept_ends old new Stays closed
      (λ c stays. home_other old new b others c (is_other c stays)) (λ c stays. name_other old new b others c (is_other c stays))

  -- the directory to which it moves
  target : (d : ℕ) → home_in b block ≡ Some d → Stays d
  target d there = record {
    there = (good d there).node;
    outside = stays_by (path_of_node old d) (node_name block) (ap (λ x. is_at_or_below (path_at old x ++ node_name block ∷ []) p) (sym there)
        ∙ ap (λ x. is_at_or_below x p) q_is ∙ apart);
  }

  abbrev Way : ℕ → ℕ → Type 0
  Way k c = Ends new k c × (climb new k c ≡ rebased p q (path_of_node old c))

  target_ends : (k d : ℕ) → home_in b block ≡ Some d → length q ≤ suc k → Ends old k d
  target_ends k d there few =
      let long : length (path_of_node old d) + 1 ≡ length q = sym (length-append (path_of_node old d) (node_name block ∷ []))
      ∙ ap (λ x. length (path_at old x ++ node_name block ∷ [])) (sym there) ∙ ap length q_is in
      ends_by_length old most_names k d (tree.ends d (good d there).node) (omega (arith, long))

  above_target : (k : ℕ) → length q ≤ suc k → (x : Option ℕ) → home_in b block ≡ x → option_map_or (λ d. climb new k d) x [] ≡ path_at old x
  above_target k few None there = refl
  above_target k few (Some d) there = climb_stays k d (target d there) ∙ climb_same old k most_names d (target_ends k d there few)
      (tree.ends d (good d there).node)

  way_here : (k : ℕ) → length (rebased p q (path_of_node old b)) ≤ suc k → Way (suc k) b
  way_here k few =
      let none : rebased p q (path_of_node old b) ≡ q = ap (λ x. q ++ drop (length p) x) p_is ∙ ap (λ x. q ++ x) (drop_all (length p) p (omega arith))
      ∙ append-nil q in
      let short : length q ≤ suc k = omega (arith, ap length none) in (
        (λ d there. (let at = sym home_new ∙ there in ends_stays k d (target d at) (target_ends k d at short))),
        (λ i. option_map_or (λ d. climb new k d) (home_new i) [] ++ name_new i ∷ [])
            ∙ ap (λ x. x ++ node_name block ∷ []) (above_target k short (home_in b block) refl) ∙ q_is ∙ sym none,
      )

  way_below : (k c d : ℕ) → IsNode old c → c ≢ b → home old c ≡ Some d → length p ≤ length (path_of_node old d) → Way k d → Way (suc k) c
  way_below k c d was other there long way = (
    (λ e at. subst (Ends new k) (same_Some _ _ (sym there ∙ sym (home_other old new b others c other) ∙ at)) way.0),
    (λ i. option_map_or (λ e. climb new k e) (home_other old new b others c other i) [] ++ name_other old new b others c other i ∷ [])
        ∙ ap (λ x. option_map_or (λ e. climb new k e) x [] ++ name_at old c ∷ []) there
        ∙ ap (λ x. x ++ name_at old c ∷ []) way.1
        ∙ append_assoc q (drop (length p) (path_of_node old d)) (name_at old c ∷ [])
        ∙ ap (λ x. q ++ x) (sym (drop-append-le (length p) (path_of_node old d) (name_at old c ∷ []) long))
        ∙ ap (λ x. rebased p q x) (sym (under_home c d was there)),
  )

  some_q : 1 ≤ length q
  some_q = omega (arith, ap length q_is, length-append (path_at old (home_in b block)) (node_name block ∷ []))

  some_p : 1 ≤ length p
  some_p = omega (arith, ap length (sym (path_by_home old tree b node) ∙ p_is), length-append (path_at old (home old b)) (name_at old b ∷ []))

  -- the directory of what is below the old path
  home_inside : (c : ℕ) → IsNode old c → c ≢ b → is_at_or_below (path_of_node old c) p ≡ true → is_at_or_below (path_at old (home old c)) p ≡ true
  home_inside c was other below =
      let whole = path_by_home old tree c was in
      front_below (path_at old (home old c)) (name_at old c) p (ap (λ x. is_at_or_below x p) (sym whole) ∙ below)
      (λ e. other (same_node old tree c b was node (whole ∙ e ∙ sym p_is)))

  length-rebased : (x : Path) → length (rebased p q x) ≡ length q + (length x - length p)
  length-rebased x = omega (arith, length-append q (drop (length p) x), length-drop (length p) x)

  way : (n k c : ℕ) → IsNode old c → Ends old n c → is_at_or_below (path_of_node old c) p ≡ true → length (rebased p q (path_of_node old c)) ≤ k → Way k c
  way zero k c was ends below few = absurd ends
  way (suc n) zero c was ends below few = absurd (omega (arith, length-rebased (path_of_node old c), some_q))
  way (suc n) (suc k) c was ends below few = elim (cases_eq c b) [
    | inl e ↦ subst (Way (suc k)) (sym e) (way_here k (subst (λ x. length (rebased p q (path_of_node old x)) ≤ suc k) e few))
    | inr other ↦ by_home other (home old c) refl (λ d there. way n k d (tree.homes c d was there).node (ends d there))
  ]
    where
      by_home : c ≢ b → (x : Option ℕ) → home old c ≡ x
          → ((d : ℕ) → home old c ≡ Some d → is_at_or_below (path_of_node old d) p ≡ true → length (rebased p q (path_of_node old d)) ≤ k → Way k d) → Way
          (suc k) c
      by_home other None there above =
          absurd (omega (arith, some_p, length-at_or_below [] p (ap (λ x. is_at_or_below (path_at old x) p) (sym there) ∙ home_inside c was other below)))
      by_home other (Some d) there above =
          let inside : is_at_or_below (path_of_node old d) p ≡ true = ap (λ x. is_at_or_below (path_at old x) p) (sym there) ∙ home_inside c was other below in
          let long = length-at_or_below (path_of_node old d) p inside in
          let more : length (path_of_node old c) ≡ length (path_of_node old d) + 1 = ap length (under_home c d was there)
          ∙ length-append (path_of_node old d) (name_at old c ∷ []) in
          way_below k c d was other there long (above d there inside (omega (
            arith,
            long,
            more,
            few,
            length-rebased (path_of_node old c),
            length-rebased (path_of_node old d),
          )))

  moved_way : (c : ℕ) → IsNode old c → is_at_or_below (path_of_node old c) p ≡ true → Way most_names c
  moved_way c was below = subst (λ k. Way k c) (sym most_is) (way most_names (suc 7) c was (tree.ends c was) below (fits c was below))

  pub moved_path : (c : ℕ) → IsNode old c → is_at_or_below (path_of_node old c) p ≡ true → path_of_node new c ≡ rebased p q (path_of_node old c)
  moved_path c was below = (moved_way c was below).1

  pub stayed_path : (c : ℕ) → IsNode old c → is_at_or_below (path_of_node old c) p ≡ false → path_of_node new c ≡ path_of_node old c
  stayed_path c was outside = climb_stays most_names c (record { there = was; outside = outside })

  was_node : (c : ℕ) → IsNode new c → IsNode old c
  was_node c is = sym (somes c) ∙ is

  ends_new : (c : ℕ) → IsNode new c → Ends new most_names c
  ends_new c is = by_case (is_at_or_below (path_of_node old c) p) refl
    where
      by_case : (below : Bool) → is_at_or_below (path_of_node old c) p ≡ below → Ends new most_names c
      by_case true e = (moved_way c (was_node c is) e).0
      by_case false e = ends_stays most_names c (record { there = was_node c is; outside = e }) (tree.ends c (was_node c is))

  pub moved_tree : IsTree new
  moved_tree =
      changed_tree old new b others tree (λ _. subst IsNamed (sym octets_new) named) (λ _ d there. good d (sym home_new ∙ there))
      (λ _ c entry. fresh c (record { node = entry.node; there = entry.there ∙ home_new; named = entry.named ∙ name_new }))
      (λ c is there was. record { node = somes b ∙ was.node; directory = kinds b ∙ was.directory }) ends_new
