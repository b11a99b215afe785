-- The survey of what a list sees, one path after another.
--     covers_some, covers_none       whether the footprint covers a path, by how it holds it
--     adds_covered, adds_uncovered  what is put in at a path that the footprint covers, or does not
--     shown_front, shown_at         what is above a path that is shown, and one of the paths
--     at_leased                     a path that the map gets
--     nothing_hidden, empty_hidden  nothing is to be put below a path that is not leased exclusively, or that has nothing below it
--     same_below                    what the footprint covers below a path that is leased exclusively
--     known_beginning, next_beginning, all_beginnings      the beginnings of a path, one after another
--     next_path, all_paths                              the paths, one after another
use Rattle.std.proofs.Common.{◌≡◌, refl, sym, ◌∙◌, ap, subst, inl, inr, Bool, true, false, cond, if◌then◌else◌, not, ◌||◌, ◌&&◌, is_some, Some, None, ℕ, zero, suc, ◌+◌, ◌<◌, ◌≤◌, List, [], ◌∷◌, length, length-take, take, take_all, get_or, true≢false, arith}
use Rattle.std.proofs.Math.Bool.{or_assoc}
use Rattle.std.proofs.lemmas.Bool.{cases_lt, cases_Bool, or_cases, or_left, or_right, and_parts, and_from}
use Rattle.std.proofs.lemmas.List.{take-take}
use Rattle.std.proofs.lemmas.List.Folds.{list_any_more}
use Rattle.std.specs.List.{list_any}
use Rattle.std.specs.FinMap.{get, get-retain_keys}
use Rattle.cfdp_paths.specs.Paths.{Path, same_path, is_at_or_below}
use Rattle.cfdp_paths.proofs.Below.{at_or_below-itself, at_or_below-trans}
use Rattle.cfdp_actions.specs.Filestore.{Filestore, node_at, is_root, has_entries}
use Rattle.cfdp_leases.specs.Footprint.{Footprint, covers, is_covered, is_exclusive, is_shared}
use Rattle.cfdp_leases.specs.declared.lease.Lease.{Lease}
use Rattle.cfdp_leases.specs.declared.lease.Lease.TheVariants.{Exclusive, Shared}
use Rattle.cfdp_actions.specs.Actions.{Request}
use Rattle.cfdp_leases.proofs.Sets.{any_at, any_from, any_in-from, any_in-at}
use Rattle.cfdp_states.specs.Alone.{alone}
use Rattle.cfdp_states.specs.Sketching.{Extents, extent_at, extent_in}
use Rattle.cfdp_states.specs.code.Sketching.{AddsWhere}
use Rattle.cfdp_states.specs.Views.{only}
use Rattle.cfdp_states.specs.code.Sparse.{is_shown, shows, is_moved, IsSparseSurvey, FillsAt, unfilled, HoldsLeased, PassAbove, paths_in}
use Rattle.cfdp_actions.proofs.Order.{kept_some, same_path-true, same_path-is}
use Rattle.cfdp_actions.proofs.Moves.{none_unless}
use Rattle.cfdp_actions.proofs.Truths.{by_truth}
use Rattle.cfdp_states.proofs.Fillers.{prefix_take}
use Rattle.cfdp_states.proofs.Surveys.{adds_none}
use Rattle.cfdp_states.proofs.Entries.{found-has_entries}
use Rattle.cfdp_states.proofs.SparseLists.{take-at_or_below, front_above, shows_from, shows-parts}
use Rattle.cfdp_states.proofs.SparseSurveys.{as_sparse, stepped, same_front}
use Rattle.cfdp_states.proofs.SparseFillers.{same_long, none_covered}
use Rattle.cfdp_states.proofs.SparsePaths.{shown_entries}
use Rattle.cfdp_paths.proofs.InOrder.{path_antisym}

-- below a path of 8 names all is shown that has its first 8 names
pub shows_wide : (paths : List Path) (p x : Path) → shows paths p ≡ true → 8 ≤ length p → is_at_or_below x p ≡ true → is_root x ≡ false → shows paths x ≡ true
shows_wide paths p x seen long at named =
    let s = shows-parts paths p seen in
    let same : take 8 x ≡ take 8 p = same_long (take 8 x) (take 8 p) (same_front 8 x p at long) (omega (arith, length-take 8 x, length-take 8 p, long)) in
    shows_from paths s.path x s.exists_in named (subst (λ y. is_at_or_below s.path y ≡ true) (sym same) s.at)

long_named : (x p : Path) → is_at_or_below x p ≡ true → 8 ≤ length p → is_root x ≡ false
long_named x [] at long = absurd (omega arith)
long_named [] (n ∷ p) at long = absurd (true≢false (sym at))
long_named (m ∷ x) (n ∷ p) at long = refl

kept_node : (fp : Footprint) (F : Filestore) (p : Path) → node_at (alone (only fp F) []) p ≡ cond (is_covered fp p) (node_at F p) None
kept_node fp F p = get-retain_keys F.nodes (λ p. is_covered fp p) p (λ y e. ap (λ p. is_covered fp p) (sym (path_antisym p y e)))

pub same_below : (fp : Footprint) (F : Filestore) (u : Path) → is_exclusive fp u ≡ true → (x : Path) → is_at_or_below x u ≡ true →
    node_at (alone (only fp F) []) x ≡ node_at F x
same_below fp F u ex x at =
    let e = any_in-from fp.exclusive (λ e. is_at_or_below u e) ex in
    let covered : is_covered fp x ≡ true = or_left (is_exclusive fp x) (is_shared fp x)
    (any_in-at fp.exclusive (λ e. is_at_or_below x e) e.0 e.1 (at_or_below-trans x u e.0 at e.2)) in
    kept_node fp F x ∙ ap (λ b. cond b (node_at F x) None) covered

-- what is above a path that is shown
pub shown_front : (paths : List Path) (x : Path) (n : ℕ) → is_shown paths x ≡ true → is_shown paths (take n x) ≡ true
shown_front paths x n h =
    let s = any_from (λ s. is_at_or_below s x) paths h in
    any_at (λ s. is_at_or_below s (take n x)) paths s.0 s.1 (at_or_below-trans s.0 x (take n x) s.2 (front_above n x))

-- one of the paths
pub shown_at : {X : Type 0} (es : List (Path × X)) (i : ℕ) (e : Path × X) → i < length es → e ≡ get_or es i e → is_shown (paths_in es) e.0 ≡ true
shown_at [] i e within is = absurd (omega (arith, within))
shown_at {X} (f ∷ es) zero e within is =
    or_left (is_at_or_below f.0 e.0) (is_shown (paths_in es) e.0) (subst (λ (g : Path × X). is_at_or_below g.0 e.0 ≡ true) is (at_or_below-itself e.0))
shown_at (f ∷ es) (suc i) e within is = or_right (is_at_or_below f.0 e.0) (is_shown (paths_in es) e.0) (shown_at es i e (omega (arith, within)) is)

-- whether the footprint covers a path, by how it holds it
pub covers_some : (fp : Footprint) (u : Path) (lease : Lease) → covers fp u ≡ Some lease → is_covered fp u ≡ true
covers_some fp u lease h = by (is_exclusive fp u) (is_shared fp u) h
  where
    by : (a b : Bool) → (if a then Some Exclusive else if b then Some Shared else None) ≡ Some lease → (a || b) ≡ true
    by true b h = refl
    by false true h = refl
    by false false h = absurd (true≢false (ap is_some (sym h)))

pub covers_none : (fp : Footprint) (u : Path) → covers fp u ≡ None → is_covered fp u ≡ false
covers_none fp u h = by (is_exclusive fp u) (is_shared fp u) h
  where
    by : (a b : Bool) → (if a then Some Exclusive else if b then Some Shared else None) ≡ None → (a || b) ≡ false
    by true b h = absurd (true≢false (ap is_some h))
    by false true h = absurd (true≢false (ap is_some h))
    by false false h = refl

-- what is put in at a path that the footprint covers, and where it does not
pub adds_covered : (fp : Footprint) (F : Filestore) (u : Path) (m m1 : Extents) → is_covered fp u ≡ true → AddsWhere (λ p. same_path p u) F m m1 →
    AddsWhere (λ p. same_path p u) (alone (only fp F) []) m m1
adds_covered fp F u m m1 covered adds p = adds p ∙ elim (cases_Bool (same_path p u)) [
  | inl e ↦
      let here : node_at F p ≡ node_at (alone (only fp F) []) p = sym (kept_node fp F p ∙ ap (λ b. cond b (node_at F p) None)
      (ap (λ x. is_covered fp x) (same_path-true p u e) ∙ covered)) in
      ap (λ v. if same_path p u && is_some v then v else get m p) (ap extent_in here)
  | inr f ↦ ap (λ b. if b && is_some (extent_at F p) then extent_at F p else get m p) f
      ∙ sym (ap (λ b. if b && is_some (extent_at (alone (only fp F) []) p) then extent_at (alone (only fp F) []) p else get m p) f)
]

pub adds_uncovered : (fp : Footprint) (F : Filestore) (u : Path) (m : Extents) → is_covered fp u ≡ false → AddsWhere (λ p. same_path p u)
    (alone (only fp F) []) m m
adds_uncovered fp F u m out = adds_none (alone (only fp F) []) m u (ap extent_in (kept_node fp F u ∙ ap (λ b. cond b (node_at F u) None) out))

module _ (requests : List Request) (paths : List Path) (fp : Footprint) (F : Filestore) (holds : HoldsLeased paths fp) (u : Path)
    (named : is_root u ≡ false) (few : length u ≤ 8) (shown : is_shown paths u ≡ true) where
  seen_u : shows paths u ≡ true
  seen_u = and_from (not (is_root u)) (is_shown paths (take 8 u)) (ap not named) (ap (is_shown paths) (take_all 8 u few) ∙ shown)

  pub nothing_hidden : (m : Extents) → is_exclusive fp u ≡ false → FillsAt (shows paths) (is_moved requests) (alone (only fp F) []) u m m
  nothing_hidden m out = unfilled (none_covered paths fp F u holds seen_u out)

  pub empty_hidden : (m : Extents) → has_entries F u ≡ false → FillsAt (shows paths) (is_moved requests) (alone (only fp F) []) u m m
  empty_hidden m none = unfilled (λ r.
      let kept = kept_some (is_covered fp r.path) (node_at F r.path) (ap is_some (sym (kept_node fp F r.path)) ∙ r.there) in
      true≢false (sym (found-has_entries F u r.path r.below kept.1) ∙ none))

  pub at_leased : (m m1 m2 : Extents) → AddsWhere (λ p. same_path p u) (alone (only fp F) []) m m1 → (length u ≡ 8 → has_entries F u ≡ false) →
      FillsAt (shows paths) (is_moved requests) (alone (only fp F) []) u m1 m2 → (done : Path → Bool) →
      IsSparseSurvey (is_moved requests) (shows paths) m done (alone (only fp F) []) →
      IsSparseSurvey (is_moved requests) (shows paths) m2 (λ p. done p || same_path p u) (alone (only fp F) [])
  at_leased m m1 m2 adds bare fills done s =
      stepped (is_moved requests) (shows paths) m m1 done (alone (only fp F) []) s u seen_u few
      (λ p x seen long at. shows_wide paths p x seen long at (long_named x p at long)) adds
      (λ deep x below. none_unless (node_at (alone (only fp F) []) x) (λ there.
      let kept = kept_some (is_covered fp x) (node_at F x) (ap is_some (sym (kept_node fp F x)) ∙ there) in
      true≢false (sym (found-has_entries F u x below kept.1) ∙ bare deep))) fills

-- ---- the beginnings of a path

module _ (known : Path → Bool) (paths : List Path) (F : Filestore) (m : Extents) where
  named_front : (p : Path) → shows paths p ≡ true → is_root (take 8 p) ≡ false
  named_front [] seen = absurd (true≢false (sym seen))
  named_front (n ∷ p) seen = refl

  pub known_beginning : (done : Path → Bool) (s : Path) (k : ℕ) → PassAbove done (take k s) → IsSparseSurvey known (shows paths) m done F →
      IsSparseSurvey known (shows paths) m (λ p. done p || is_at_or_below (take k s) p) F
  known_beginning done s k passes survey = as_sparse known (shows paths) m done (λ p. done p || is_at_or_below (take k s) p) F survey (λ p seen.
      by_truth (done (take 8 p) || is_at_or_below (take k s) (take 8 p)) (done (take 8 p))
      (λ h. elim (or_cases (done (take 8 p)) (is_at_or_below (take k s) (take 8 p)) h) [
        | inl d ↦ d
        | inr at ↦ passes (take 8 p) (named_front p seen) at
      ]) (λ d. or_left (done (take 8 p)) (is_at_or_below (take k s) (take 8 p)) d))

  one_more : (s x : Path) (k : ℕ) → k + 1 ≤ length s → is_at_or_below (take (k + 1) s) x ≡ (is_at_or_below (take k s) x || same_path x (take (k + 1) s))
  one_more s x k within =
      by_truth (is_at_or_below (take (k + 1) s) x) (is_at_or_below (take k s) x || same_path x (take (k + 1) s))
      (λ at. elim (cases_Bool (same_path x (take (k + 1) s))) [
        | inl e ↦ or_right (is_at_or_below (take k s) x) (same_path x (take (k + 1) s)) e
        | inr f ↦
            let long : length (take (k + 1) s) ≡ k + 1 = omega (arith, within, length-take (k + 1) s) in
            let short : length x ≤ k = elim (cases_lt k (length x)) [
              | inr le ↦ le
              | inl more ↦ absurd (true≢false (sym (same_path-is x (take (k + 1) s) (sym (same_long (take (k + 1) s) x at (omega (arith, long, more))))) ∙ f))
            ] in
            or_left (is_at_or_below (take k s) x) (same_path x (take (k + 1) s))
            (subst (λ y. is_at_or_below (take k s) y ≡ true) (take_all k x short)
            (subst (λ y. is_at_or_below y (take k x) ≡ true) (take-take k (k + 1) s (omega arith)) (take-at_or_below k (take (k + 1) s) x at)))
      ])
      (λ h. elim (or_cases (is_at_or_below (take k s) x) (same_path x (take (k + 1) s)) h) [
        | inl up ↦ at_or_below-trans (take (k + 1) s) (take k s) x (prefix_take s k (k + 1) (omega arith)) up
        | inr e ↦ subst (λ y. is_at_or_below (take (k + 1) s) y ≡ true) (sym (same_path-true x (take (k + 1) s) e)) (at_or_below-itself (take (k + 1) s))
      ])

  pub next_beginning : (done : Path → Bool) (s : Path) (k n : ℕ) → n ≡ k + 1 → k + 1 ≤ length s →
      IsSparseSurvey known (shows paths) m (λ p. (done p || is_at_or_below (take k s) p) || same_path p (take (k + 1) s)) F →
      IsSparseSurvey known (shows paths) m (λ p. done p || is_at_or_below (take n s) p) F
  next_beginning done s k n is within survey = as_sparse known (shows paths) m (λ p. (done p || is_at_or_below (take k s) p) || same_path p (take (k + 1) s))
      (λ p. done p || is_at_or_below (take n s) p) F survey (λ p seen.
      ap (λ n. done (take 8 p) || is_at_or_below (take n s) (take 8 p)) is
      ∙ ap (λ b. done (take 8 p) || b) (one_more s (take 8 p) k within)
      ∙ sym (or_assoc (done (take 8 p)) (is_at_or_below (take k s) (take 8 p)) (same_path (take 8 p) (take (k + 1) s))))

  pub all_beginnings : (done : Path → Bool) (s : Path) (k : ℕ) → length s ≤ k → IsSparseSurvey known (shows paths) m
      (λ p. done p || is_at_or_below (take k s) p) F →
      IsSparseSurvey known (shows paths) m (λ p. done p || is_at_or_below s p) F
  all_beginnings done s k all survey = as_sparse known (shows paths) m (λ p. done p || is_at_or_below (take k s) p) (λ p. done p || is_at_or_below s p) F survey
      (λ p seen. ap (λ z. done (take 8 p) || is_at_or_below z (take 8 p)) (sym (take_all k s all)))

  -- ---- the paths

  pub next_path : {X : Type 0} (es : List (Path × X)) (i : ℕ) (e : Path × X) → i < length es → e ≡ get_or es i e →
      IsSparseSurvey known (shows paths) m (λ p. is_shown (paths_in (take i es)) p || is_at_or_below e.0 p) F →
      IsSparseSurvey known (shows paths) m (λ p. is_shown (paths_in (take (i + 1) es)) p) F
  next_path {X} es i e within is survey = as_sparse known (shows paths) m (λ p. is_shown (paths_in (take i es)) p || is_at_or_below e.0 p)
      (λ p. is_shown (paths_in (take (i + 1) es)) p) F survey (λ p seen.
      shown_entries (take (i + 1) es) (take 8 p) ∙ list_any_more (λ (f : Path × X). is_at_or_below f.0 (take 8 p)) es i e within
      ∙ ap (λ (f : Path × X). list_any (λ (f : Path × X). is_at_or_below f.0 (take 8 p)) (take i es) || is_at_or_below f.0 (take 8 p)) (sym is)
      ∙ ap (λ b. b || is_at_or_below e.0 (take 8 p)) (sym (shown_entries (take i es) (take 8 p))))

  pub all_paths : {X : Type 0} (es : List (Path × X)) (i : ℕ) → length es ≤ i →
      IsSparseSurvey known (shows paths) m (λ p. is_shown (paths_in (take i es)) p) F →
      IsSparseSurvey known (shows paths) m (λ p. is_shown (paths_in es) p) F
  all_paths es i all survey = as_sparse known (shows paths) m (λ p. is_shown (paths_in (take i es)) p) (λ p. is_shown (paths_in es) p) F survey
      (λ p seen. ap (λ fs. is_shown (paths_in fs) (take 8 p)) (sym (take_all i es all)))

-- each visible path has been looked at then
pub all_shown : (paths : List Path) (p : Path) → shows paths p ≡ true → is_shown paths (take 8 p) ≡ true
all_shown paths p seen = (and_parts (not (is_root p)) (is_shown paths (take 8 p)) seen).1
