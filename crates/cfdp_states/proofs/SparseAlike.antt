-- Two filestores that are alike at the visible paths, and hide something below the same ones.
--     Owner, owner                   the nearest visible path above one that is not visible
--     knows_all, knows_any           what is known of any depth, and of none
--     nodes_seen, parent_seen, entries_seen, depth_seen      what the tests of the action table read is the same in both
use Rattle.std.proofs.Common.{◌≡◌, refl, sym, ◌∙◌, ap, inl, inr, Bool, true, false, not, ◌&&◌, ◌||◌, is_some, ℕ, zero, suc, ◌+◌, ◌≤◌, [], ◌∷◌, length, arith, true≢false, le_refl}
use Rattle.std.proofs.lemmas.Bool.{cases_Bool}
use Rattle.cfdp_paths.specs.Paths.{Path, same_path, is_at_or_below, is_below, parent}
use Rattle.cfdp_paths.proofs.Below.{at_or_below-antisym, parent_at_or_below, parent_below, below_parent, length-child, is_below-Decides}
use Rattle.cfdp_paths.specs.PathMaps.{is_too_deep}
use Rattle.cfdp_actions.specs.Filestore.{Filestore, node_at, has_entries, is_good, is_root, parent_is_good, tree_at}
use Rattle.cfdp_states.specs.Sparse.{Hides, IsSparseSubstitute, Knows}
use Rattle.cfdp_actions.proofs.Order.{same_path-true, same_path-is}
use Rattle.cfdp_actions.proofs.Truths.{by_truth}
use Rattle.cfdp_states.proofs.LikeNodes.{Like, like, like-is_some, like-is_directory}
use Rattle.cfdp_states.proofs.Entries.{below-at, below-trans, below-under, Found, has_entries-found, found-has_entries, too_deep-found, found-too_deep, deeper}

-- ---- what is above a path that is not visible

pub record Owner (visible : Path → Bool) (p x : Path) : Type 0 where
  pub path : Path
  pub at : is_at_or_below path p ≡ true
  pub seen : visible path ≡ true
  pub below : is_below x path ≡ true
  pub hidden : (y : Path) → is_at_or_below x y ≡ true → is_below y path ≡ true → visible y ≡ false

-- one that is above another and not it is above its parent
between : (x y : Path) → is_at_or_below x y ≡ true → same_path x y ≡ false → is_at_or_below (parent x) y ≡ true
between x y at other = below_parent x y ((is_below-Decides x y).1 (at, λ e. true≢false (sym (same_path-is x y e) ∙ other)))

below_some : (x p : Path) → is_below x p ≡ true → 1 ≤ length x
below_some [] [] h = absurd (true≢false (sym h))
below_some [] (n ∷ p) h = absurd (true≢false (sym h))
below_some (m ∷ x) p h = omega arith

owner_in : (visible : Path → Bool) (p : Path) → visible p ≡ true → (k : ℕ) (x : Path) → length x ≤ k → is_below x p ≡ true → visible x ≡ false →
    Owner visible p x
owner_in visible p seen zero x le below out = let some = below_some x p below in absurd (omega (arith, some, le))
owner_in visible p seen (suc k) x le below out =
    let some = below_some x p below in
    let up = below_parent x p below in
    let short : length x ≡ length (parent x) + 1 = length-child x (parent x) some refl in
    elim (cases_Bool (visible (parent x))) [
      | inl s ↦ record {
        path = parent x;
        at = up;
        seen = s;
        below = parent_below x some;
        hidden = λ y at under. elim (cases_Bool (same_path x y)) [
          | inl e ↦ ap visible (sym (same_path-true x y e)) ∙ out
          | inr f ↦ let parts = (is_below-Decides y (parent x)).0 under in
              absurd (parts.1 (at_or_below-antisym y (parent x) parts.0 (between x y at f)))
        ];
      }
      | inr o ↦
          let rest = owner_in visible p seen k (parent x) (omega (arith, le, short))
          ((is_below-Decides (parent x) p).1 (up, λ e. true≢false (sym seen ∙ ap visible (sym e) ∙ o))) o in
          record {
            path = rest.path;
            at = rest.at;
            seen = rest.seen;
            below = below-under x (parent x) rest.path (parent_at_or_below x) rest.below;
            hidden = λ y at under. elim (cases_Bool (same_path x y)) [
              | inl e ↦ ap visible (sym (same_path-true x y e)) ∙ out
              | inr f ↦ rest.hidden y (between x y at f) under
            ];
          }
    ]

pub owner : (visible : Path → Bool) (p x : Path) → visible p ≡ true → is_below x p ≡ true → visible x ≡ false → Owner visible p x
owner visible p x seen below out = owner_in visible p seen (length x) x (le_refl (length x)) below out

-- something in G at or below p, as deep as x is in F
across : (visible : Path → Bool) (F G : Filestore) → ((x : Path) → visible x ≡ true → is_some (node_at F x) ≡ is_some (node_at G x)) →
    (n : ℕ) (p x : Path) → n ≤ length x → visible p ≡ true →
    ((c : Path) → visible c ≡ true → is_at_or_below c p ≡ true → Hides visible F c n → Hides visible G c n) →
    is_at_or_below x p ≡ true → is_some (node_at F x) ≡ true → Found G p x n
across visible F G same n p x le seen over at there =
    elim (cases_Bool (visible x)) [
      | inl s ↦ record { path = x; at = at; below = λ b. b; there = sym (same x s) ∙ there; deep = le }
      | inr f ↦
          let o = owner visible p x seen ((is_below-Decides x p).1 (at, λ e. true≢false (sym seen ∙ ap visible (sym e) ∙ f))) f in
          let r = over o.path o.seen o.at (record { path = x; below = o.below; hidden = o.hidden; there = there; deep = le }) in
          let under = below-trans r.path o.path p r.below o.at in
          record { path = r.path; at = below-at r.path p under; below = λ _. under; there = r.there; deep = r.deep }
    ]

-- ---- what the tests read

-- what is known of any depth, and of none
pub knows_all : (known : Bool) → known ≡ true → (n : ℕ) → Knows known n
knows_all true e n = tt
knows_all false e n = absurd (true≢false (sym e))

pub knows_any : (known : Bool) → Knows known 0
knows_any true = tt
knows_any false = refl

module _ (known visible : Path → Bool) (F G : Filestore) (h : IsSparseSubstitute known visible F G) where
  pub nodes_seen : (p : Path) → visible p ≡ true → Like (node_at F p) (node_at G p)
  nodes_seen p seen = like _ _ (h.alike p seen)

  here_there : (n : ℕ) (p x : Path) → n ≤ length x → ((c : Path) → is_at_or_below c p ≡ true → Knows (known c) n) → visible p ≡ true →
      is_at_or_below x p ≡ true → is_some (node_at F x) ≡ true → Found G p x n
  here_there n p x le enough seen at some =
      across visible F G (λ x s. like-is_some (nodes_seen x s)) n p x le seen (λ c s up. (h.deep c n s (enough c up)).0) at some

  there_here : (n : ℕ) (p x : Path) → n ≤ length x → ((c : Path) → is_at_or_below c p ≡ true → Knows (known c) n) → visible p ≡ true →
      is_at_or_below x p ≡ true → is_some (node_at G x) ≡ true → Found F p x n
  there_here n p x le enough seen at some =
      across visible G F (λ x s. sym (like-is_some (nodes_seen x s))) n p x le seen (λ c s up. (h.deep c n s (enough c up)).1) at some

  pub parent_seen : (p : Path) → is_root (parent p) || visible (parent p) ≡ true → parent_is_good F p ≡ parent_is_good G p
  parent_seen p seen = ap (λ b. not (is_root p) && b) (good (parent p) seen)
    where
      good : (q : Path) → is_root q || visible q ≡ true → is_good F q ≡ is_good G q
      good [] seen = refl
      good (n ∷ q) seen = like-is_directory (nodes_seen (n ∷ q) seen)

  pub entries_seen : (p : Path) → visible p ≡ true → has_entries F p ≡ has_entries G p
  entries_seen p seen = by_truth _ _
      (λ e. let r = has_entries-found F p e in
      let f = here_there 0 p r.path (omega arith) (λ c up. knows_any (known c)) seen (below-at r.path p r.below) r.there in
      found-has_entries G p f.path (f.below r.below) f.there)
      (λ e. let r = has_entries-found G p e in
      let f = there_here 0 p r.path (omega arith) (λ c up. knows_any (known c)) seen (below-at r.path p r.below) r.there in
      found-has_entries F p f.path (f.below r.below) f.there)

  pub depth_seen : (p q : Path) → ((c : Path) → is_at_or_below c p ≡ true → known c ≡ true) → visible p ≡ true → is_too_deep p q (tree_at F p)
      ≡ is_too_deep p q (tree_at G p)
  depth_seen p q movable seen = by_truth _ _
      (λ e. let d = too_deep-found F p q e in
      let f = here_there (length d.path) p d.path (le_refl (length d.path)) (λ c up. knows_all (known c) (movable c up) (length d.path)) seen d.at d.there in
      found-too_deep G p q (record { path = f.path; at = f.at; there = f.there; deep = deeper p q d.path f.path f.deep d.deep }))
      (λ e. let d = too_deep-found G p q e in
      let f = there_here (length d.path) p d.path (le_refl (length d.path)) (λ c up. knows_all (known c) (movable c up) (length d.path)) seen d.at d.there in
      found-too_deep F p q (record { path = f.path; at = f.at; there = f.there; deep = deeper p q d.path f.path f.deep d.deep }))
