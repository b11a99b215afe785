-- A directory that moves, in two filestores of which the same is visible.
--     moved-sparse      of both the same is visible again
--     blocks-sparse     and the blocks of both stay
use Rattle.std.proofs.Common.{◌≡◌, sym, ◌∙◌, ap, subst, inl, inr, ◌↔◌, Bool, true, false, ◌||◌, nat_lt, is_some, Option, None, ℕ, ◌+◌, ◌<◌, ◌≤◌, [], length, arith, true≢false, le_refl, lt-ltb, ltb-true, if◌then◌else◌}
use Rattle.std.proofs.lemmas.Bool.{cases_Bool, or_cases, or_parts, false_from_ne_true}
use Rattle.std.proofs.lemmas.List.{append-nil}
use Rattle.cfdp_paths.specs.Paths.{Path, same_path, is_at_or_below, is_below, rebased}
use Rattle.cfdp_paths.proofs.Below.{at_or_below-itself, at_or_below-trans, is_below-Decides, length-at_or_below, rebased-append}
use Rattle.cfdp_paths.specs.PathMaps.{is_too_deep}
use Rattle.cfdp_actions.specs.Filestore.{Node, Filestore, node_at, blocks, has_entries, tree_at}
use Rattle.cfdp_actions.specs.Actions.{RenameFile}
use Rattle.cfdp_states.specs.Sparse.{passes_after, Hides, IsSparseSubstitute, Knows, AreAlike}
use Rattle.cfdp_actions.proofs.Order.{same_path-true, same_path-is}
use Rattle.cfdp_actions.proofs.Prefixes.{rebased-below, rebased_back}
use Rattle.cfdp_actions.proofs.Moves.{none_unless, moved, moved_there_free, blocks-moved_free, staged-moved}
use Rattle.cfdp_states.proofs.LikeNodes.{nothing, alike, like-none}
use Rattle.cfdp_states.proofs.Entries.{below-at, above, found-has_entries, found-too_deep}
use Rattle.cfdp_states.proofs.MovedPaths.{not_both, at-moved, below-moved, length-moved, moved-gone, moved-else}
use Rattle.cfdp_states.proofs.SparseAlike.{knows_all, nodes_seen, entries_seen}

-- a test after a rename
module _ (p q : Path) (test : Path → Bool) where
  pub passes_at : (x : Path) → is_at_or_below x q ≡ true → passes_after (RenameFile p q) test x ≡ (nat_lt 8 (length x) || test (rebased q p x))
  passes_at x at = ap (λ b. if b then nat_lt 8 (length x) || test (rebased q p x) else is_at_or_below x p || test x) at

  pub passes_gone : (x : Path) → is_at_or_below x q ≡ false → is_at_or_below x p ≡ true → passes_after (RenameFile p q) test x ≡ true
  passes_gone x apart at = λ i. if apart i then nat_lt 8 (length x) || test (rebased q p x) else at i || test x

  pub passes_else : (x : Path) → is_at_or_below x q ≡ false → is_at_or_below x p ≡ false → passes_after (RenameFile p q) test x ≡ test x
  passes_else x apart other = λ i. if apart i then nat_lt 8 (length x) || test (rebased q p x) else other i || test x

  pub passes_both : (x : Path) → is_at_or_below x q ≡ true → passes_after (RenameFile p q) test x ≡ false → (nat_lt 8 (length x) ≡ false)
      × (test (rebased q p x) ≡ false)
  passes_both x at h = or_parts (nat_lt 8 (length x)) (test (rebased q p x)) (sym (passes_at x at) ∙ h)

-- what moves to q is there
rebased-top : (p q : Path) → rebased p q p ≡ q
rebased-top p q = ap (rebased p q) (sym (append-nil p)) ∙ rebased-append p q [] ∙ append-nil q

longer : (x y : Path) → is_at_or_below x y ≡ true → nat_lt 8 (length x) ≡ false → nat_lt 8 (length y) ≡ false
longer x y at short = false_from_ne_true _ (λ t.
    let more : 8 < length y = ltb-true 8 (length y) t in
    let le = length-at_or_below x y at in
    true≢false (sym (lt-ltb 8 (length x) (omega (arith, more, le))) ∙ short))

-- what is above a path that is not at or below r is not either
off_both : (x y r : Path) → is_at_or_below x y ≡ true → is_at_or_below x r ≡ false → is_at_or_below y r ≡ false
off_both x y r up out = false_from_ne_true _ (λ t. true≢false (sym (at_or_below-trans x y r up t) ∙ out))

-- ---- a filestore in which nothing is at or below q

module _ (visible : Path → Bool) (F : Filestore) (p q : Path) (seen_p : visible p ≡ true) (apart : is_at_or_below q p ≡ false)
    (shallow : is_too_deep p q (tree_at F p) ≡ false) (empty : (x : Path) → is_at_or_below x q ≡ true → node_at F x ≡ None) where
  -- what moves has no more than 8 names then
  short_then : (y : Path) → is_at_or_below y p ≡ true → is_some (node_at F y) ≡ true → nat_lt 8 (length (rebased p q y)) ≡ false
  short_then y at there = false_from_ne_true _ (λ t.
      true≢false (sym (found-too_deep F p q (record { path = y; at = at; there = there; deep = t })) ∙ shallow))

  short_there : (x : Path) → is_at_or_below x q ≡ true → is_some (node_at (moved F p q) x) ≡ true → nat_lt 8 (length x) ≡ false
  short_there x at there =
      subst (λ z. nat_lt 8 (length z) ≡ false) (rebased_back q p x at)
      (short_then (rebased q p x) (rebased-below q p x) (ap is_some (sym (moved_there_free F p q empty x at)) ∙ there))

  pub none_deep : (x : Path) → is_at_or_below x q ≡ true → nat_lt 8 (length x) ≡ true → node_at (moved F p q) x ≡ None
  none_deep x at deep = none_unless (node_at (moved F p q) x) (λ there. true≢false (sym deep ∙ short_there x at there))

  -- what a directory that moves hides
  hides-moved : (c : Path) (n : ℕ) → is_at_or_below c p ≡ true → Hides (passes_after (RenameFile p q) visible) (moved F p q) (rebased p q c) n →
      (m : ℕ) × (n + length p ≤ m + length q) × Hides visible F c m
  hides-moved c n at r =
      let x = r.path in
      let y = rebased q p x in
      let here : is_at_or_below x q ≡ true = at_or_below-trans x (rebased p q c) q (below-at x (rebased p q c) r.below) (rebased-below p q c) in
      let long : length y + length q ≡ length x + length p = length-moved q p x here in (
        length y,
        omega (arith, long, r.deep),
        record {
          path = y;
          below = subst (λ d. is_below y d ≡ true) (rebased_back p q c at) (below-moved q p x (rebased p q c) r.below (rebased-below p q c));
          hidden = λ z above_y below_c.
              let under : is_at_or_below z p ≡ true = at_or_below-trans z c p (below-at z c below_c) at in
              let out = r.hidden (rebased p q z) (subst (λ w. is_at_or_below w (rebased p q z) ≡ true) (rebased_back q p x here)
              (at-moved p q y z above_y under))
              (below-moved p q z c below_c at) in
              subst (λ w. visible w ≡ false) (rebased_back p q z under) (passes_both p q visible (rebased p q z) (rebased-below p q z) out).1;
          there = ap is_some (sym (moved_there_free F p q empty x here)) ∙ r.there;
          deep = le_refl (length y);
        },
      )

  hides_to-moved : (c : Path) (n m : ℕ) → is_at_or_below c p ≡ true → n + length p ≤ m + length q → Hides visible F c m →
      Hides (passes_after (RenameFile p q) visible) (moved F p q) (rebased p q c) n
  hides_to-moved c n m at le r =
      let y = r.path in
      let x = rebased p q y in
      let under : is_at_or_below y p ≡ true = at_or_below-trans y c p (below-at y c r.below) at in
      let long : length x + length p ≡ length y + length q = length-moved p q y under in
      record {
        path = x;
        below = below-moved p q y c r.below at;
        hidden = λ z above_x below_d.
            let top = rebased-below p q c in
            let at_z : is_at_or_below z q ≡ true = at_or_below-trans z (rebased p q c) q (below-at z (rebased p q c) below_d) top in
            let out : visible (rebased q p z) ≡ false = r.hidden (rebased q p z)
            (subst (λ w. is_at_or_below w (rebased q p z) ≡ true) (rebased_back p q y under) (at-moved q p x z above_x at_z))
            (subst (λ w. is_below (rebased q p z) w ≡ true) (rebased_back p q c at) (below-moved q p z (rebased p q c) below_d top)) in
            passes_at p q visible z at_z ∙ (λ i. longer x z above_x (short_then y under r.there) i || out i);
        there = ap is_some (moved_there_free F p q empty x (rebased-below p q y) ∙ ap (node_at F) (rebased_back p q y under)) ∙ r.there;
        deep = omega (arith, le, long, r.deep);
      }

  -- nothing is hidden where it was
  hides-gone : (c : Path) (n : ℕ) → is_at_or_below c q ≡ false → is_at_or_below c p ≡ true →
      Hides (passes_after (RenameFile p q) visible) (moved F p q) c n → {A : Type 0} → A
  hides-gone c n off at r =
      let x = r.path in
      let under = at_or_below-trans x c p (below-at x c r.below) at in
      elim (cases_Bool (is_at_or_below x q)) [
        | inl here ↦ elim (cases_Bool (is_below q c)) [
          | inl below ↦ not_both (is_at_or_below q p) (at_or_below-trans q c p (below-at q c below) at) apart
          | inr other ↦ not_both (is_at_or_below c q) (above x c q (below-at x c r.below) here other) off
        ]
        | inr out ↦ absurd (true≢false (sym r.there ∙ ap is_some (moved-gone F p q x out under)))
      ]

  -- nor where more than 8 names are
  hides-deep : (c : Path) (n : ℕ) → is_at_or_below c q ≡ true → nat_lt 8 (length c) ≡ true →
      Hides (passes_after (RenameFile p q) visible) (moved F p q) c n → {A : Type 0} → A
  hides-deep c n at deep r =
      let x = r.path in
      let up = below-at x c r.below in
      not_both (nat_lt 8 (length c)) deep (longer x c up (short_there x (at_or_below-trans x c q up at) r.there))

  -- below one that is beside both
  hides-stays : (c : Path) (n : ℕ) → is_at_or_below c q ≡ false → is_at_or_below c p ≡ false →
      Hides (passes_after (RenameFile p q) visible) (moved F p q) c n → Hides visible F c n
  hides-stays c n off away r =
      let x = r.path in
      let up = below-at x c r.below in
      elim (cases_Bool (is_at_or_below x q)) [
        | inl here ↦ elim (cases_Bool (is_below q c)) [
          | inl below ↦
              let out = (passes_both p q visible q (at_or_below-itself q) (r.hidden q here below)).1 in
              not_both (visible p) seen_p (subst (λ z. visible z ≡ false) (rebased-top q p) out)
          | inr other ↦ not_both (is_at_or_below c q) (above x c q up here other) off
        ]
        | inr out ↦ elim (cases_Bool (is_at_or_below x p)) [
          | inl at ↦ absurd (true≢false (sym r.there ∙ ap is_some (moved-gone F p q x out at)))
          | inr other ↦ record {
            path = x;
            below = r.below;
            hidden = λ y above_x below_c. sym (passes_else p q visible y (off_both x y q above_x out) (off_both x y p above_x other))
                ∙ r.hidden y above_x below_c;
            there = ap is_some (sym (moved-else F p q x out other)) ∙ r.there;
            deep = r.deep;
          }
        ]
      ]

  hides_to-stays : (c : Path) (n : ℕ) → is_at_or_below c q ≡ false → is_at_or_below c p ≡ false → Hides visible F c n →
      Hides (passes_after (RenameFile p q) visible) (moved F p q) c n
  hides_to-stays c n off away r =
      let x = r.path in
      let up = below-at x c r.below in
      elim (cases_Bool (is_at_or_below x q)) [
        | inl here ↦ absurd (true≢false (sym r.there ∙ ap is_some (empty x here)))
        | inr out ↦ elim (cases_Bool (is_at_or_below x p)) [
          | inl at ↦ elim (cases_Bool (is_below p c)) [
            | inl below ↦ not_both (visible p) seen_p (r.hidden p at below)
            | inr other ↦ not_both (is_at_or_below c p) (above x c p up at other) away
          ]
          | inr other ↦ record {
            path = x;
            below = r.below;
            hidden = λ y above_x below_c. passes_else p q visible y (off_both x y q above_x out) (off_both x y p above_x other)
                ∙ r.hidden y above_x below_c;
            there = ap is_some (moved-else F p q x out other) ∙ r.there;
            deep = r.deep;
          }
        ]
      ]

-- ---- two of them

-- nothing is at or below a path at which nothing exists, and below which nothing does
pub nothing_at : (F : Filestore) (q : Path) → node_at F q ≡ None → has_entries F q ≡ false → (x : Path) → is_at_or_below x q ≡ true → node_at F x ≡ None
nothing_at F q absent bare x at =
    elim (cases_Bool (same_path x q)) [
      | inl e ↦ ap (node_at F) (same_path-true x q e) ∙ absent
      | inr f ↦ none_unless (node_at F x) (λ some.
          true≢false (sym (found-has_entries F q x ((is_below-Decides x q).1 (at, λ e. true≢false (sym (same_path-is x q e) ∙ f))) some) ∙ bare))
    ]

module _ (known visible : Path → Bool) (F G : Filestore) (h : IsSparseSubstitute known visible F G) (p q : Path) (seen_p : visible p ≡ true)
    (seen_q : visible q ≡ true) (movable : (c : Path) → is_at_or_below c p ≡ true → known c ≡ true) (apart : is_at_or_below q p ≡ false)
    (shallow_F : is_too_deep p q (tree_at F p) ≡ false) (shallow_G : is_too_deep p q (tree_at G p) ≡ false)
    (absent : node_at G q ≡ None) (bare : has_entries G q ≡ false) where
  empty_G : (x : Path) → is_at_or_below x q ≡ true → node_at G x ≡ None
  empty_G x at = nothing_at G q absent bare x at

  empty_F : (x : Path) → is_at_or_below x q ≡ true → node_at F x ≡ None
  empty_F x at = nothing_at F q (like-none (nodes_seen known visible F G h q seen_q) absent) (entries_seen known visible F G h q seen_q ∙ bare) x at

  both_alike : {a b c d : Option Node} → a ≡ b → c ≡ d → AreAlike b d → AreAlike a c
  both_alike {a} {b} {c} {d} e f k = subst (λ (v : Option Node). AreAlike v c) (sym e) (subst (λ (v : Option Node). AreAlike b v) (sym f) k)

  still_alike : (x : Path) → passes_after (RenameFile p q) visible x ≡ true → AreAlike (node_at (moved F p q) x) (node_at (moved G p q) x)
  still_alike x seen =
      elim (cases_Bool (is_at_or_below x q)) [
        | inl at ↦ elim (or_cases (nat_lt 8 (length x)) (visible (rebased q p x)) (sym (passes_at p q visible x at) ∙ seen)) [
          | inl deep ↦ both_alike (none_deep visible F p q seen_p apart shallow_F empty_F x at deep)
              (none_deep visible G p q seen_p apart shallow_G empty_G x at deep) (alike nothing)
          | inr s ↦ both_alike (moved_there_free F p q empty_F x at) (moved_there_free G p q empty_G x at) (h.alike (rebased q p x) s)
        ]
        | inr off ↦ elim (cases_Bool (is_at_or_below x p)) [
          | inl at ↦ both_alike (moved-gone F p q x off at) (moved-gone G p q x off at) (alike nothing)
          | inr other ↦ both_alike (moved-else F p q x off other) (moved-else G p q x off other)
              (h.alike x (sym (passes_else p q visible x off other) ∙ seen))
        ]
      ]

  -- as much is hidden below c, where both have moved
  hides_there : (c : Path) → is_at_or_below c p ≡ true → visible c ≡ true → (n : ℕ) →
      Hides (passes_after (RenameFile p q) visible) (moved F p q) (rebased p q c) n ↔ Hides (passes_after (RenameFile p q) visible) (moved G p q)
      (rebased p q c) n
  hides_there c at seen n =
      let all = λ (m : ℕ). h.deep c m seen (knows_all (known c) (movable c at) m) in (
        (λ r. let b = hides-moved visible F p q seen_p apart shallow_F empty_F c n at r in
            hides_to-moved visible G p q seen_p apart shallow_G empty_G c n b.0 at b.1 ((all b.0).0 b.2)),
        (λ r. let b = hides-moved visible G p q seen_p apart shallow_G empty_G c n at r in
            hides_to-moved visible F p q seen_p apart shallow_F empty_F c n b.0 at b.1 ((all b.0).1 b.2)),
      )

  still_deep : (c : Path) (n : ℕ) → passes_after (RenameFile p q) visible c ≡ true → Knows (passes_after (RenameFile p q) known c) n →
      Hides (passes_after (RenameFile p q) visible) (moved F p q) c n ↔ Hides (passes_after (RenameFile p q) visible) (moved G p q) c n
  still_deep c n seen k =
      elim (cases_Bool (is_at_or_below c q)) [
        | inl at ↦ elim (or_cases (nat_lt 8 (length c)) (visible (rebased q p c)) (sym (passes_at p q visible c at) ∙ seen)) [
          | inl deep ↦ (
            (λ r. hides-deep visible F p q seen_p apart shallow_F empty_F c n at deep r),
            (λ r. hides-deep visible G p q seen_p apart shallow_G empty_G c n at deep r),
          )
          | inr s ↦ subst (λ d. Hides (passes_after (RenameFile p q) visible) (moved F p q) d n ↔ Hides (passes_after (RenameFile p q) visible)
              (moved G p q) d n)
              (rebased_back q p c at) (hides_there (rebased q p c) (rebased-below q p c) s n)
        ]
        | inr off ↦ elim (cases_Bool (is_at_or_below c p)) [
          | inl at ↦ (
            (λ r. hides-gone visible F p q seen_p apart shallow_F empty_F c n off at r),
            (λ r. hides-gone visible G p q seen_p apart shallow_G empty_G c n off at r),
          )
          | inr other ↦
              let both = h.deep c n (sym (passes_else p q visible c off other) ∙ seen) (subst (λ b. Knows b n) (passes_else p q known c off other) k) in (
                (λ r. hides_to-stays visible G p q seen_p apart shallow_G empty_G c n off other
                    (both.0 (hides-stays visible F p q seen_p apart shallow_F empty_F c n off other r))),
                (λ r. hides_to-stays visible F p q seen_p apart shallow_F empty_F c n off other
                    (both.1 (hides-stays visible G p q seen_p apart shallow_G empty_G c n off other r))),
              )
        ]
      ]

  pub moved-sparse : IsSparseSubstitute (passes_after (RenameFile p q) known) (passes_after (RenameFile p q) visible) (moved F p q) (moved G p q)
  moved-sparse = record {
    staged = staged-moved G p q ∙ h.staged ∙ sym (staged-moved F p q);
    alike = still_alike;
    deep = still_deep;
  }

  pub blocks-sparse : blocks (moved F p q) + blocks G ≡ blocks (moved G p q) + blocks F
  blocks-sparse = let f = blocks-moved_free F p q empty_F in let g = blocks-moved_free G p q empty_G in omega (arith, f, g)
