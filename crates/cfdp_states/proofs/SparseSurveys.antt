-- What is at visible paths, put into a map of extents, with one directory for what is hidden below each of them.
--     nothing_sparse, as_sparse       no path;  the same test
--     stepped                         one more path
--     same_front                      one more name of a path
--     sparse_view                     the view of what was put in
use Rattle.std.proofs.Common.{◌≡◌, refl, sym, ◌∙◌, ap, subst, ◌⊎◌, inl, inr, ◌↔◌, Bool, true, false, cond, ◌||◌, ◌&&◌, is_some, Option, Some, None, ℕ, zero, suc, ◌<◌, ◌≤◌, List, [], ◌∷◌, length, length-take, take, take_all, if◌then◌else◌, true≢false, arith}
use Rattle.std.proofs.lemmas.Bool.{cases_lt, cases_Bool, or_parts, or_right, and_parts, false_from_ne_true}
use Rattle.std.specs.FinMap.{get, empty, insert, get-insert, get-empty}
use Rattle.cfdp_paths.specs.Paths.{Path, path_cmp, same_name, same_path, is_at_or_below, is_below}
use Rattle.cfdp_paths.proofs.Below.{at_or_below-itself, prefixes_compare, is_below-Decides}
use Rattle.cfdp_paths.proofs.Comparing.{path_cmp-total}
use Rattle.cfdp_actions.specs.Filestore.{Node, Filestore, node_at, blocks}
use Rattle.cfdp_actions.specs.Actions.{Item}
use Rattle.cfdp_leases.specs.Footprint.{Footprint}
use Rattle.cfdp_states.specs.declared.extent.Extent.{Extent}
use Rattle.cfdp_states.specs.declared.extent.Extent.TheVariants as extent
use Rattle.cfdp_states.specs.Alone.{alone}
use Rattle.cfdp_states.specs.Sketching.{extent_in, extent_at, Extents}
use Rattle.cfdp_states.specs.code.Sketching.{AddsWhere, total_blocks, IsOutline}
use Rattle.cfdp_states.specs.Views.{most_count, most_need, only}
use Rattle.cfdp_states.specs.Sparse.{Hides, IsSparseSubstitute, IsSparseViewOf, KnowsMoves, Sees, Knows, AreAlike}
use Rattle.cfdp_states.specs.code.Sparse.{HidesIn, IsSparseSurvey, FillsAt, unfilled, filled}
use Rattle.cfdp_actions.proofs.Order.{same_path-true, same_path-refl, same_path-is}
use Rattle.cfdp_states.proofs.Counting.{blocks-counted}
use Rattle.cfdp_states.proofs.Viewing.{sketch, nothing_staged}
use Rattle.cfdp_states.proofs.Surveyed.{only-small, none_yet}
use Rattle.cfdp_states.proofs.MovedPaths.{not_both}
use Rattle.cfdp_states.proofs.OfExtents.{node_in, node_of, filestore_of, node_at-filestore_of, fits, in_there, like_node, node-small, total-is}
use Rattle.cfdp_states.proofs.SparseLists.{front_above}

pub or_none : (a b : Bool) → b ≡ false → (a || b) ≡ a
or_none true b e = refl
or_none false b e = e

module _ (known visible : Path → Bool) where
  pub nothing_sparse : (F : Filestore) → IsSparseSurvey known visible empty (λ p. false) F
  nothing_sparse F = record {
    stated = λ p seen. get-empty path_cmp p;
    kept = λ p. inl (get-empty path_cmp p);
    deep = λ p n seen d k. absurd (true≢false (sym d));
    none = λ p seen d h. true≢false (sym h.there ∙ ap is_some (get-empty path_cmp h.path));
  }

  pub as_sparse : (m : Extents) (done later : Path → Bool) (F : Filestore) → IsSparseSurvey known visible m done F →
      ((p : Path) → visible p ≡ true → later (take 8 p) ≡ done (take 8 p)) → IsSparseSurvey known visible m later F
  as_sparse m done later F s same = record {
    stated = λ p seen. s.stated p seen ∙ ap (λ b. if b then extent_at F p else None) (sym (same p seen));
    kept = s.kept;
    deep = λ p n seen d k. s.deep p n seen (sym (same p seen) ∙ d) k;
    none = λ p seen d h. s.none p seen (sym (same p seen) ∙ d) h;
  }

  -- ---- one more path

  module _ (m m1 : Extents) (done : Path → Bool) (F : Filestore) (s : IsSparseSurvey known visible m done F) (u : Path) (seen_u : visible u ≡ true)
      (few : length u ≤ 8) (wide : (p x : Path) → visible p ≡ true → 8 ≤ length p → is_at_or_below x p ≡ true → visible x ≡ true)
      (adds : AddsWhere (λ p. same_path p u) F m m1)
      (bottom : length u ≡ 8 → (x : Path) → is_below x u ≡ true → node_at F x ≡ None) where
    -- a path of more names
    deep_front : (p : Path) → same_path (take 8 p) u ≡ true → same_path p u ≡ false → (8 < length p) × (length u ≡ 8) × (is_below p u ≡ true)
    deep_front p e f = elim (cases_lt 8 (length p)) [
      | inl more ↦
          let is = same_path-true (take 8 p) u e in
          let long : length u ≡ length (take 8 p) = ap length (sym is) in (
            more,
            omega (arith, long, more, length-take 8 p),
            (is_below-Decides p u).1 (subst (λ y. is_at_or_below p y ≡ true) is (front_above 8 p), λ same. true≢false (sym (same_path-is p u same) ∙ f)),
          )
      | inr le ↦ absurd (true≢false (sym (subst (λ y. same_path y u ≡ true) (take_all 8 p le) e) ∙ f))
    ]

    itself_front : (p : Path) → same_path p u ≡ true → same_path (take 8 p) u ≡ true
    itself_front p e = same_path-is (take 8 p) u (ap (take 8) (same_path-true p u e) ∙ take_all 8 u few)

    pick : (b : Bool) (v w : Option Extent) → w ≡ (if b then v else None) → (if true && is_some v then v else w) ≡ v
    pick b (Some e) w is = refl
    pick true None w is = is
    pick false None w is = is

    no_matter : (a b : Bool) (v : Option Extent) → v ≡ None → (if a then v else None) ≡ (if b then v else None)
    no_matter true true v is = refl
    no_matter true false v is = is
    no_matter false true v is = sym is
    no_matter false false v is = refl

    put_stated : (p : Path) → visible p ≡ true → get m1 p ≡ (if done (take 8 p) || same_path (take 8 p) u then extent_at F p else None)
    put_stated p seen =
        let v = extent_at F p in
        elim (cases_Bool (same_path p u)) [
          | inl e ↦ adds p ∙ ap (λ b. if b && is_some v then v else get m p) e ∙ pick (done (take 8 p)) v (get m p) (s.stated p seen)
              ∙ sym (ap (λ b. if b then v else None) (or_right (done (take 8 p)) (same_path (take 8 p) u) (itself_front p e)))
          | inr f ↦ adds p ∙ ap (λ b. if b && is_some v then v else get m p) f ∙ s.stated p seen ∙ elim (cases_Bool (same_path (take 8 p) u)) [
            | inl e ↦ let d = deep_front p e f in
                no_matter (done (take 8 p)) (done (take 8 p) || same_path (take 8 p) u) v (ap extent_in (bottom d.1 p d.2))
            | inr g ↦ sym (ap (λ b. if b then v else None) (or_none (done (take 8 p)) (same_path (take 8 p) u) g))
          ]
        ]

    abbrev Kept : Path → Extents → Type 0
    Kept p m = (get m p ≡ None) ⊎ ((get m p ≡ Some extent.Directory) ⊎ (get m p ≡ extent_at F p))

    still_kept : (p : Path) (a b : Extents) → get b p ≡ get a p → Kept p a → Kept p b
    still_kept p a b e (inl h) = inl (e ∙ h)
    still_kept p a b e (inr (inl h)) = inr (inl (e ∙ h))
    still_kept p a b e (inr (inr h)) = inr (inr (e ∙ h))

    put_kept : (p : Path) → Kept p m1
    put_kept p = elim (cases_Bool (same_path p u && is_some (extent_at F p))) [
      | inl t ↦ inr (inr (adds p ∙ ap (λ b. if b then extent_at F p else get m p) t))
      | inr f ↦ still_kept p m m1 (adds p ∙ ap (λ b. if b then extent_at F p else get m p) f) (s.kept p)
    ]

    -- what is hidden is not at the path
    put_hidden : (x : Path) → visible x ≡ false → get m1 x ≡ get m x
    put_hidden x out = adds x ∙ ap (λ b. if b && is_some (extent_at F x) then extent_at F x else get m x)
        (false_from_ne_true (same_path x u) (λ e. true≢false (sym seen_u ∙ ap visible (sym (same_path-true x u e)) ∙ out)))

    put_to : (p : Path) (n : ℕ) → HidesIn visible m p n → HidesIn visible m1 p n
    put_to p n r = record {
      path = r.path;
      below = r.below;
      hidden = r.hidden;
      there = ap is_some (put_hidden r.path (r.hidden r.path (at_or_below-itself r.path) r.below)) ∙ r.there;
      deep = r.deep;
    }

    put_from : (p : Path) (n : ℕ) → HidesIn visible m1 p n → HidesIn visible m p n
    put_from p n r = record {
      path = r.path;
      below = r.below;
      hidden = r.hidden;
      there = ap is_some (sym (put_hidden r.path (r.hidden r.path (at_or_below-itself r.path) r.below))) ∙ r.there;
      deep = r.deep;
    }

    -- what the map hides below the path already is hidden there
    own : (n : ℕ) → Knows (known u) n → HidesIn visible m u n → Hides visible F u n
    own n k r = elim (cases_Bool (done u)) [
      | inl d ↦ (s.deep u n seen_u (ap done (take_all 8 u few) ∙ d) k).1 r
      | inr f ↦ absurd (s.none u seen_u (ap done (take_all 8 u few) ∙ f)
          (record { path = r.path; below = r.below; hidden = r.hidden; there = r.there; deep = omega arith }))
    ]

    -- ---- with a directory for what is hidden

    visible_same : {m2 : Extents} → FillsAt visible known F u m1 m2 → (p : Path) → visible p ≡ true → get m2 p ≡ get m1 p
    visible_same (unfilled none) p seen = refl
    visible_same (filled d below hidden over most) p seen = get-insert path_cmp-total m1 d extent.Directory p
        ∙ ap (λ b. cond b (Some extent.Directory) (get m1 p))
        (false_from_ne_true (same_path p d) (λ e. true≢false (sym seen ∙ ap visible (same_path-true p d e) ∙ hidden d (at_or_below-itself d) below)))

    fill_kept : {m2 : Extents} → FillsAt visible known F u m1 m2 → (p : Path) → Kept p m2
    fill_kept (unfilled none) p = put_kept p
    fill_kept (filled d below hidden over most) p = elim (cases_Bool (same_path p d)) [
      | inl e ↦ inr (inl (get-insert path_cmp-total m1 d extent.Directory p ∙ ap (λ b. cond b (Some extent.Directory) (get m1 p)) e))
      | inr f ↦ still_kept p m1 (insert m1 d extent.Directory)
          (get-insert path_cmp-total m1 d extent.Directory p ∙ ap (λ b. cond b (Some extent.Directory) (get m1 p)) f) (put_kept p)
    ]

    fill_to : {m2 : Extents} → FillsAt visible known F u m1 m2 → (n : ℕ) → Knows (known u) n → Hides visible F u n → HidesIn visible m2 u n
    fill_to (unfilled none) n k r =
        absurd (none (record { path = r.path; below = r.below; hidden = r.hidden; there = r.there; deep = omega arith }))
    fill_to (filled d below hidden over most) n k r = record {
      path = d;
      below = below;
      hidden = hidden;
      there = ap is_some (get-insert path_cmp-total m1 d extent.Directory d ∙ ap (λ b. cond b (Some extent.Directory) (get m1 d)) (same_path-refl d));
      deep = most n k r;
    }

    fill_from : {m2 : Extents} → FillsAt visible known F u m1 m2 → (n : ℕ) → Knows (known u) n → HidesIn visible m2 u n → Hides visible F u n
    fill_from (unfilled none) n k r = own n k (put_from u n r)
    fill_from (filled d below hidden over most) n k r = elim (cases_Bool (same_path r.path d)) [
      | inl e ↦
          let long : length r.path ≡ length d = ap length (same_path-true r.path d e) in
          let deep = r.deep in
          over n k (omega (arith, long, deep))
      | inr f ↦ own n k (put_from u n (record {
        path = r.path;
        below = r.below;
        hidden = r.hidden;
        there = ap is_some (sym (get-insert path_cmp-total m1 d extent.Directory r.path
            ∙ ap (λ b. cond b (Some extent.Directory) (get m1 r.path)) f)) ∙ r.there;
        deep = r.deep;
      }))
    ]

    one_owner : (p d : Path) → visible p ≡ true → same_path p u ≡ false → is_below d p ≡ true → is_below d u ≡ true →
        ((y : Path) → is_at_or_below d y ≡ true → is_below y p ≡ true → visible y ≡ false) →
        ((y : Path) → is_at_or_below d y ≡ true → is_below y u ≡ true → visible y ≡ false) → {A : Type 0} → A
    one_owner p d seen other below_p below_u hidden_p hidden_u =
        let at_p = ((is_below-Decides d p).0 below_p).0 in
        let at_u = ((is_below-Decides d u).0 below_u).0 in
        elim (prefixes_compare d p u at_p at_u) [
          | inl h ↦ not_both (visible p) seen (hidden_u p at_p ((is_below-Decides p u).1 (h, λ e. true≢false (sym (same_path-is p u e) ∙ other))))
          | inr h ↦ not_both (visible u) seen_u (hidden_p u at_u ((is_below-Decides u p).1 (h, λ e. true≢false (sym (same_path-is p u (sym e)) ∙ other))))
        ]

    fill_off : {m2 : Extents} → FillsAt visible known F u m1 m2 → (p : Path) (n : ℕ) → visible p ≡ true → same_path p u ≡ false → HidesIn visible m2 p n →
        HidesIn visible m1 p n
    fill_off (unfilled none) p n seen other r = r
    fill_off (filled d below hidden over most) p n seen other r = elim (cases_Bool (same_path r.path d)) [
      | inl e ↦
          let is = same_path-true r.path d e in
          one_owner p d seen other (subst (λ y. is_below y p ≡ true) is r.below) below
          (λ y at under. r.hidden y (subst (λ z. is_at_or_below z y ≡ true) (sym is) at) under) hidden
      | inr f ↦ record {
        path = r.path;
        below = r.below;
        hidden = r.hidden;
        there = ap is_some (sym (get-insert path_cmp-total m1 d extent.Directory r.path
            ∙ ap (λ b. cond b (Some extent.Directory) (get m1 r.path)) f)) ∙ r.there;
        deep = r.deep;
      }
    ]

    grows : (b : Bool) (v : Option Extent) → is_some v ≡ true → is_some (cond b (Some extent.Directory) v) ≡ true
    grows true v h = refl
    grows false v h = h

    fill_onto : {m2 : Extents} → FillsAt visible known F u m1 m2 → (p : Path) (n : ℕ) → HidesIn visible m1 p n → HidesIn visible m2 p n
    fill_onto (unfilled none) p n r = r
    fill_onto (filled d below hidden over most) p n r = record {
      path = r.path;
      below = r.below;
      hidden = r.hidden;
      there = ap is_some (get-insert path_cmp-total m1 d extent.Directory r.path) ∙ grows (same_path r.path d) (get m1 r.path) r.there;
      deep = r.deep;
    }

    -- nothing is hidden below a path of more than 8 names
    none_below : (p x : Path) → visible p ≡ true → 8 < length p → is_below x p ≡ true → visible x ≡ false → {A : Type 0} → A
    none_below p x seen more below out =
        not_both (visible x) (wide p x seen (omega (arith, more)) ((is_below-Decides x p).0 below).0) out

    step_deep : {m2 : Extents} → FillsAt visible known F u m1 m2 → (p : Path) (n : ℕ) → visible p ≡ true → (done (take 8 p) || same_path (take 8 p) u) ≡ true →
        Knows (known p) n → Hides visible F p n ↔ HidesIn visible m2 p n
    step_deep {m2} fills p n seen d k =
        elim (cases_Bool (same_path p u)) [
          | inl e ↦ let is = same_path-true p u e in
              subst (λ q. Hides visible F q n ↔ HidesIn visible m2 q n) (sym is)
              ((λ r. fill_to fills n (subst (λ q. Knows (known q) n) is k) r), (λ r. fill_from fills n (subst (λ q. Knows (known q) n) is k) r))
          | inr f ↦ elim (cases_Bool (same_path (take 8 p) u)) [
            | inl e ↦ let more = (deep_front p e f).0 in (
              (λ r. none_below p r.path seen more r.below (r.hidden r.path (at_or_below-itself r.path) r.below)),
              (λ r. none_below p r.path seen more r.below (r.hidden r.path (at_or_below-itself r.path) r.below)),
            )
            | inr g ↦
                let both = s.deep p n seen (sym (or_none (done (take 8 p)) (same_path (take 8 p) u) g) ∙ d) k in (
                  (λ r. fill_onto fills p n (put_to p n (both.0 r))),
                  (λ r. both.1 (put_from p n (fill_off fills p n seen f r))),
                )
          ]
        ]

    step_none : {m2 : Extents} → FillsAt visible known F u m1 m2 → (p : Path) → visible p ≡ true → (done (take 8 p) || same_path (take 8 p) u) ≡ false →
        HidesIn visible m2 p 0 → ⊥
    step_none fills p seen d r =
        let parts = or_parts (done (take 8 p)) (same_path (take 8 p) u) d in
        let other = false_from_ne_true (same_path p u) (λ e. true≢false (sym (itself_front p e) ∙ parts.1)) in
        s.none p seen parts.0 (put_from p 0 (fill_off fills p 0 seen other r))

    pub stepped : {m2 : Extents} → FillsAt visible known F u m1 m2 → IsSparseSurvey known visible m2 (λ p. done p || same_path p u) F
    stepped fills = record {
      stated = λ p seen. visible_same fills p seen ∙ put_stated p seen;
      kept = λ p. fill_kept fills p;
      deep = λ p n seen d k. step_deep fills p n seen d k;
      none = λ p seen d r. step_none fills p seen d r;
    }

-- ---- one more name of a path

pub same_front : (n : ℕ) (x p : Path) → is_at_or_below x p ≡ true → n ≤ length p → is_at_or_below (take n x) (take n p) ≡ true
same_front zero x p at le = refl
same_front (suc n) x [] at le = absurd (omega arith)
same_front (suc n) [] (m ∷ p) at le = absurd (true≢false (sym at))
same_front (suc n) (l ∷ x) (m ∷ p) at le =
    let parts = and_parts (same_name l m) (is_at_or_below x p) at in
    λ i. parts.0 i && same_front n x p parts.1 (omega arith) i

-- ---- the view of it

module _ (known visible : Path → Bool) (fp : Footprint) (F : Filestore) (prefixes : List Path) (m : Extents) (done : Path → Bool) (items : List Item)
    (s : IsSparseSurvey known visible m done (alone (only fp F) [])) (all : (p : Path) → visible p ≡ true → done (take 8 p) ≡ true)
    (few : blocks F ≤ 65536) (small : total_blocks m ≤ 65536) (sees : Sees visible items) (moves : KnowsMoves known items) where
  sparse_outline : IsOutline m (filestore_of m)
  unfolding node_in node_of
  sparse_outline = record { found = λ p. sym (ap extent_in (node_at-filestore_of m p) ∙ same p (get m p) (s.kept p)) }
    where
      same : (p : Path) (v : Option Extent) → (v ≡ None) ⊎ ((v ≡ Some extent.Directory) ⊎ (v ≡ extent_at (alone (only fp F) []) p)) →
          extent_in (node_in v) ≡ v
      same p v (inl e) = subst (λ v. extent_in (node_in v) ≡ v) (sym e) refl
      same p v (inr (inl e)) = subst (λ v. extent_in (node_in v) ≡ v) (sym e) refl
      same p v (inr (inr e)) = subst (λ v. extent_in (node_in v) ≡ v) (sym e) (fits (node_at (alone (only fp F) []) p))

  stated_all : (p : Path) → visible p ≡ true → get m p ≡ extent_at (alone (only fp F) []) p
  stated_all p seen = s.stated p seen ∙ ap (λ b. if b then extent_at (alone (only fp F) []) p else None) (all p seen)

  there_in : (p : Path) → is_some (node_at (filestore_of m) p) ≡ is_some (get m p)
  there_in p = ap is_some (node_at-filestore_of m p) ∙ in_there (get m p)

  sparse_substitutes : IsSparseSubstitute known visible (alone (only fp F) []) (filestore_of m)
  unfolding filestore_of
  sparse_substitutes = record {
    staged = refl;
    alike = λ p seen. subst (λ (v : Option Node). AreAlike (node_at (alone (only fp F) []) p) v)
        (sym (node_at-filestore_of m p ∙ ap node_in (stated_all p seen)))
        (like_node (node_at (alone (only fp F) []) p) (node-small (alone (only fp F) []) p (only-small fp F few)));
    deep = λ p n seen k. (
      (λ r. let q = (s.deep p n seen (all p seen) k).0 r in
          record { path = q.path; below = q.below; hidden = q.hidden; there = there_in q.path ∙ q.there; deep = q.deep }),
      (λ r. (s.deep p n seen (all p seen) k).1
          (record { path = r.path; below = r.below; hidden = r.hidden; there = sym (there_in r.path) ∙ r.there; deep = r.deep })),
    );
  }

  pub sparse_view : let G = alone (only fp F) [] in IsSparseViewOf (sketch prefixes m (total_blocks m) 0 0) items G (blocks G) (blocks G) 0
  unfolding filestore_of
  sparse_view =
      let G = filestore_of m in
      let counted : total_blocks m ≡ blocks G = total-is (total_blocks m) (blocks G) (blocks-counted ([] ∷ []) nothing_staged m G refl sparse_outline) small in
      record {
        known = known;
        visible = visible;
        seen = G;
        first = blocks G;
        most = blocks G;
        tells = record {
          extents = sparse_outline.found;
          staged = refl;
          base = counted;
          small = omega (arith, counted, small);
          need = none_yet (blocks G) most_need;
          steps = none_yet 0 most_count;
        };
        one = sparse_substitutes;
        sees = sees;
        moves = moves;
        gap = omega arith;
        peaks = omega arith;
      }
