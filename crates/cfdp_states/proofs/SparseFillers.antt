-- What a filestore hides below a path, in terms of `is_beside`, and one directory for it.
--     hidden_by_child, child_hidden     a path is hidden exactly if its way begins with a child that is not shown
--     children-shown                    the children that are shown
--     filler_deep                       a directory that is put there has more names
--     fills_none, fills_one             where nothing is hidden, and where one directory is put there
--     none_covered                      below a path that is not leased exclusively the footprint covers nothing hidden
use Rattle.std.proofs.Common.{◌≡◌, refl, sym, ◌∙◌, ap, subst, inl, inr, Bool, true, false, cond, not, ◌||◌, ◌==◌, is_some, None, ℕ, suc, ◌+◌, ◌<◌, ◌≤◌, List, [], ◌∷◌, length, length-take, take, take_all, if◌then◌else◌, true≢false, arith}
use Rattle.std.proofs.lemmas.Bool.{cases_Bool, or_cases, and_parts, and_from, false_from_ne_true, not-true}
use Rattle.std.specs.List.{list_any}
use Rattle.std.specs.FinMap.{entries, get-entries, get-retain_keys, len-entries, insert}
use Rattle.std.specs.FinMap.Entries.{find}
use Rattle.cfdp_paths.specs.Paths.{Path, path_cmp, same_path, is_at_or_below, is_below}
use Rattle.cfdp_paths.proofs.Below.{at_or_below-itself, at_or_below-trans, prefixes_compare, is_below-Decides}
use Rattle.cfdp_actions.specs.Filestore.{Node, Filestore, node_at, is_root, is_beside, inside_beside, has_beside, deepest_beside}
use Rattle.cfdp_leases.specs.Footprint.{Footprint, is_exclusive, is_shared, is_covered}
use Rattle.cfdp_leases.proofs.Sets.{any_at, any_from, any_in-from, any_in-at}
use Rattle.cfdp_states.specs.declared.extent.Extent.TheVariants as extent
use Rattle.cfdp_states.specs.Alone.{alone}
use Rattle.cfdp_states.specs.Sketching.{Extents}
use Rattle.cfdp_states.specs.Views.{only}
use Rattle.cfdp_states.specs.Sparse.{Hides, Knows}
use Rattle.cfdp_states.specs.code.Sparse.{is_shown, shows, children, IsUnseenBelow, FillsAt, unfilled, filled, HoldsLeased}
use Rattle.cfdp_actions.proofs.Order.{kept_some, same_path-true, same_path-is}
use Rattle.cfdp_actions.proofs.BesideLaws.{below_longer}
use Rattle.cfdp_actions.proofs.Truths.{by_truth}
use Rattle.cfdp_actions.proofs.RowLaws.{deepest-most}
use Rattle.cfdp_states.proofs.Entries.{deepest-there, any-found, found-any, some_entry, below-at, below-under}
use Rattle.cfdp_states.proofs.MovedPaths.{not_both}
use Rattle.cfdp_states.proofs.SparseLists.{take-at_or_below, front_above, shows_above, shows-parts}
use Rattle.cfdp_paths.proofs.InOrder.{path_antisym}

-- ---- the child on the way to a path

pub same_long : (c y : Path) → is_at_or_below c y ≡ true → length c ≤ length y → c ≡ y
same_long c y at le = elim (cases_Bool (same_path c y)) [
  | inl e ↦ same_path-true c y e
  | inr f ↦ let more = below_longer c y ((is_below-Decides c y).1 (at, λ e. true≢false (sym (same_path-is c y e) ∙ f))) in absurd (omega (arith, more, le))
]

below_rooted : (x u : Path) → is_below x u ≡ true → is_root x ≡ false
below_rooted [] [] h = absurd (true≢false (sym h))
below_rooted [] (n ∷ u) h = absurd (true≢false (sym h))
below_rooted (m ∷ x) u h = refl

module _ (paths : List Path) (u : Path) (few : length u < 8) where
  module _ (x : Path) (below : is_below x u ≡ true) where
    child-length : length (take (suc (length u)) x) ≡ suc (length u)
    child-length = let more = below_longer x u below in omega (arith, more, length-take (suc (length u)) x)

    child-below : is_below (take (suc (length u)) x) u ≡ true
    child-below =
        let up : is_at_or_below (take (suc (length u)) x) u ≡ true =
        subst (λ z. is_at_or_below (take (suc (length u)) x) z ≡ true) (take_all (suc (length u)) u (omega arith))
        (take-at_or_below (suc (length u)) x u (below-at x u below)) in
        (is_below-Decides (take (suc (length u)) x) u).1
        (up, λ e. let same : length (take (suc (length u)) x) ≡ length u = ap length e in omega (arith, same, child-length))

    child-above : (y : Path) → is_at_or_below x y ≡ true → is_below y u ≡ true → is_at_or_below y (take (suc (length u)) x) ≡ true
    child-above y at under = elim (prefixes_compare x y (take (suc (length u)) x) at (front_above (suc (length u)) x)) [
      | inl h ↦ h
      | inr h ↦ let more = below_longer y u under in
          subst (λ z. is_at_or_below y z ≡ true) (sym (same_long (take (suc (length u)) x) y h (omega (arith, more, child-length)))) (at_or_below-itself y)
    ]

    child-short : take 8 (take (suc (length u)) x) ≡ take (suc (length u)) x
    child-short = take_all 8 (take (suc (length u)) x) (omega (arith, child-length, few))

    pub hidden_by_child : is_shown paths (take (suc (length u)) x) ≡ false → (y : Path) → is_at_or_below x y ≡ true → is_below y u ≡ true → shows paths y
        ≡ false
    hidden_by_child out y at under = false_from_ne_true (shows paths y) (λ seen.
        let c = take (suc (length u)) x in
        let s = shows-parts paths y seen in
        let up : is_at_or_below (take 8 y) c ≡ true =
        subst (λ z. is_at_or_below (take 8 y) z ≡ true) child-short (take-at_or_below 8 y c (child-above y at under)) in
        true≢false (sym (any_at (λ s. is_at_or_below s c) paths s.path s.exists_in (at_or_below-trans s.path (take 8 y) c s.at up)) ∙ out))

    pub child_hidden : ((y : Path) → is_at_or_below x y ≡ true → is_below y u ≡ true → shows paths y ≡ false) → is_shown paths (take (suc (length u)) x) ≡ false
    child_hidden hidden = false_from_ne_true (is_shown paths (take (suc (length u)) x)) (λ t.
        let c = take (suc (length u)) x in
        let s = any_from (λ s. is_at_or_below s c) paths t in
        true≢false (sym (shows_above paths s.0 c s.1 (below_rooted c u child-below) s.2) ∙ hidden c (front_above (suc (length u)) x) child-below))

  pub children-shown : (c : Path) → is_below c u ≡ true → length c ≡ suc (length u) → (paths : List Path) → list_any (same_path c) (children u paths)
      ≡ is_shown paths c
  children-shown c under long [] = refl
  children-shown c under long (s ∷ paths) =
      elim (is_below s u) as (λ b. is_below s u ≡ b → list_any (same_path c) (if b then take (suc (length u)) s ∷ children u paths else children u paths)
      ≡ is_shown (s ∷ paths) c) [
        | true ↦ λ e. λ i. one i || children-shown c under long paths i
        | false ↦ λ f. children-shown c under long paths
            ∙ sym (ap (λ b. b || is_shown paths c) (false_from_ne_true (is_at_or_below s c) (λ at. true≢false (sym (below-under s c u at under) ∙ f))))
      ] refl
    where
      one : same_path c (take (suc (length u)) s) ≡ is_at_or_below s c
      one = by_truth (same_path c (take (suc (length u)) s)) (is_at_or_below s c)
          (λ e. subst (λ z. is_at_or_below s z ≡ true) (sym (same_path-true c (take (suc (length u)) s) e)) (front_above (suc (length u)) s))
          (λ at. same_path-is c (take (suc (length u)) s) (sym (same_long (take (suc (length u)) s) c
          (subst (λ z. is_at_or_below (take (suc (length u)) s) z ≡ true) (take_all (suc (length u)) c (omega (arith, long)))
          (take-at_or_below (suc (length u)) s c at)) (omega (arith, long, length-take (suc (length u)) s)))))

  -- beside the children that are shown
  beside-hidden : (x : Path) → is_beside (children u paths) u x ≡ true → (is_below x u ≡ true)
      × ((y : Path) → is_at_or_below x y ≡ true → is_below y u ≡ true → shows paths y ≡ false)
  beside-hidden x h =
      let parts = and_parts (is_below x u) (not (list_any (same_path (take (suc (length u)) x)) (children u paths))) h in (
        parts.0,
        hidden_by_child x parts.0 (sym (children-shown (take (suc (length u)) x) (child-below x parts.0) (child-length x parts.0) paths)
            ∙ not-true (list_any (same_path (take (suc (length u)) x)) (children u paths)) parts.1),
      )

  hidden-beside : (x : Path) → is_below x u ≡ true → ((y : Path) → is_at_or_below x y ≡ true → is_below y u ≡ true → shows paths y ≡ false) →
      is_beside (children u paths) u x ≡ true
  hidden-beside x below hidden =
      and_from (is_below x u) (not (list_any (same_path (take (suc (length u)) x)) (children u paths))) below
      (ap not (children-shown (take (suc (length u)) x) (child-below x below) (child-length x below) paths ∙ child_hidden x below hidden))

-- ---- what is beside

find-beside : (F : Filestore) (others : List Path) (p x : Path) → find path_cmp x (entries (inside_beside F p others))
    ≡ cond (is_beside others p x) (node_at F x) None
find-beside F others p x = sym (get-entries (inside_beside F p others) x)
    ∙ get-retain_keys F.nodes (is_beside others p) x (λ y e. ap (is_beside others p) (sym (path_antisym x y e)))

beside-any : (F : Filestore) (others : List Path) (p : Path) → has_beside F p others
    ≡ list_any (λ (e : Path × Node). true) (entries (inside_beside F p others))
beside-any F others p = ap (λ n. not (n == 0)) (len-entries (inside_beside F p others)) ∙ some_entry (entries (inside_beside F p others))

module _ (paths : List Path) (u : Path) (few : length u < 8) (F G : Filestore)
    (same : (x : Path) → is_at_or_below x u ≡ true → node_at G x ≡ node_at F x) where
  hides-beside : (k n : ℕ) → n ≤ k → (x : Path) → k ≤ length x → is_beside (children u paths) u x ≡ true → is_some (node_at F x) ≡ true →
      Hides (shows paths) G u n
  hides-beside k n le x long beside there =
      let h = beside-hidden paths u few x beside in
      record {
        path = x;
        below = h.0;
        hidden = h.1;
        there = ap is_some (same x (below-at x u h.0)) ∙ there;
        deep = omega (arith, le, long);
      }

  in_entries : (x : Path) → is_below x u ≡ true → ((y : Path) → is_at_or_below x y ≡ true → is_below y u ≡ true → shows paths y ≡ false) →
      is_some (node_at G x) ≡ true → is_some (find path_cmp x (entries (inside_beside F u (children u paths)))) ≡ true
  in_entries x below hidden there =
      ap is_some (find-beside F (children u paths) u x ∙ ap (λ b. cond b (node_at F x) None) (hidden-beside paths u few x below hidden)
      ∙ sym (same x (below-at x u below))) ∙ there

  pub fills_none : (known : Path → Bool) (m : Extents) → has_beside F u (children u paths) ≡ false → FillsAt (shows paths) known G u m m
  fills_none known m none = unfilled (λ r. true≢false (sym (beside-any F (children u paths) u
      ∙ found-any (λ x. true) (entries (inside_beside F u (children u paths))) r.path refl (in_entries r.path r.below r.hidden r.there)) ∙ none))

  -- something is there
  pub beside_there : has_beside F u (children u paths) ≡ true → (x : Path) × (is_beside (children u paths) u x ≡ true) × (is_some (node_at F x) ≡ true)
      × (is_some (find path_cmp x (entries (inside_beside F u (children u paths)))) ≡ true)
  beside_there h =
      let f = any-found (λ x. true) (entries (inside_beside F u (children u paths))) (sym (beside-any F (children u paths) u) ∙ h) in
      let kept = kept_some (is_beside (children u paths) u f.0) (node_at F f.0) (ap is_some (sym (find-beside F (children u paths) u f.0)) ∙ f.2) in
      (f.0, kept.0, kept.1, f.2)

  -- it has more names
  pub beside_deep : has_beside F u (children u paths) ≡ true → length u < deepest_beside F u (children u paths)
  beside_deep h =
      let b = beside_there h in
      let most = deepest-most (entries (inside_beside F u (children u paths))) b.0 b.3 in
      let more = below_longer b.0 u (beside-hidden paths u few b.0 b.1).0 in
      omega (arith, most, more)

  -- so has the directory that is put there
  pub filler_deep : (b : Bool) (n : ℕ) → n ≡ (if b then deepest_beside F u (children u paths) else length u + 1) → has_beside F u (children u paths) ≡ true →
      length u < n
  filler_deep true n is some = let deep = beside_deep some in omega (arith, is, deep)
  filler_deep false n is some = omega (arith, is)

  module _ (known : Path → Bool) (m : Extents) (n : ℕ) (some : has_beside F u (children u paths) ≡ true)
      (is : n ≡ (if known u then deepest_beside F u (children u paths) else length u + 1)) (d : Path) (unseen : IsUnseenBelow paths u n d) where
    over : (b : Bool) → (b ≡ true → n ≡ deepest_beside F u (children u paths)) → (k : ℕ) → Knows b k → k ≤ n → Hides (shows paths) G u k
    over true is k know le =
        let deep = beside_deep some in
        let e = is refl in
        let f = deepest-there (entries (inside_beside F u (children u paths))) (omega (arith, deep)) in
        let kept = kept_some (is_beside (children u paths) u f.0) (node_at F f.0) (ap is_some (sym (find-beside F (children u paths) u f.0)) ∙ f.1) in
        let long = f.2 in
        hides-beside n k le f.0 (omega (arith, long, e)) kept.0 kept.1
    over false is k know le = let b = beside_there some in hides-beside 0 k (omega (arith, know)) b.0 (omega arith) b.1 b.2

    most : (b : Bool) → (b ≡ true → n ≡ deepest_beside F u (children u paths)) → (k : ℕ) → Knows b k → Hides (shows paths) G u k → k ≤ n
    most true is k know r =
        let top = deepest-most (entries (inside_beside F u (children u paths))) r.path (in_entries r.path r.below r.hidden r.there) in
        let deep = r.deep in
        let e = is refl in
        omega (arith, top, deep, e)
    most false is k know r = omega (arith, know)

    moved_deep : known u ≡ true → n ≡ deepest_beside F u (children u paths)
    moved_deep moved = is ∙ ap (λ b. if b then deepest_beside F u (children u paths) else length u + 1) moved

    pub fills_one : FillsAt (shows paths) known G u m (insert m d extent.Directory)
    fills_one =
        let long = unseen.long in
        let next : length u + 1 ≡ suc (length u) = omega arith in
        let child : is_shown paths (take (suc (length u)) d) ≡ false = subst (λ k. is_shown paths (take k d) ≡ false) next unseen.unseen in
        filled d unseen.below (hidden_by_child paths u few d unseen.below child)
        (λ k know le. over (known u) moved_deep k know (omega (arith, le, long)))
        (λ k know r. let top = most (known u) moved_deep k know r in omega (arith, top, long))

-- ---- a path that is not leased exclusively

pub none_covered : (paths : List Path) (fp : Footprint) (F : Filestore) (u : Path) → HoldsLeased paths fp → shows paths u ≡ true → is_exclusive fp u ≡ false →
    Hides (shows paths) (alone (only fp F) []) u 0 → ⊥
none_covered paths fp F u holds seen out r =
    let x = r.path in
    let kept = kept_some (is_covered fp x) (node_at F x) (ap is_some (sym (get-retain_keys F.nodes (λ p. is_covered fp p) x
    (λ y e. ap (λ p. is_covered fp p) (sym (path_antisym x y e))))) ∙ r.there) in
    elim (or_cases (is_exclusive fp x) (is_shared fp x) kept.0) [
      | inl ex ↦
          let e = any_in-from fp.exclusive (λ e. is_at_or_below x e) ex in
          elim (prefixes_compare x u e.0 (below-at x u r.below) e.2) [
            | inl up ↦ not_both (is_exclusive fp u) (any_in-at fp.exclusive (λ e. is_at_or_below u e) e.0 e.1 up) out
            | inr down ↦ elim (cases_Bool (same_path e.0 u)) [
              | inl same ↦ not_both (is_exclusive fp u) (any_in-at fp.exclusive (λ e. is_at_or_below u e) e.0 e.1
                  (subst (λ z. is_at_or_below u z ≡ true) (sym (same_path-true e.0 u same)) (at_or_below-itself u))) out
              | inr other ↦
                  let under = (is_below-Decides e.0 u).1 (down, λ i. true≢false (sym (same_path-is e.0 u i) ∙ other)) in
                  not_both (shows paths e.0) (shows_above paths e.0 e.0 (holds.exclusive e.0 e.1) (below_rooted e.0 u under) (at_or_below-itself e.0))
                  (r.hidden e.0 e.2 under)
            ]
          ]
      | inr sh ↦ not_both (shows paths x) (shows_above paths x x (holds.shared x sh) (below_rooted x u r.below) (at_or_below-itself x))
          (r.hidden x (at_or_below-itself x) r.below)
    ]
