-- What is at and below a path in a filestore.
--     below-at, below-trans, below-under      a path below one is at or below it, and below what that is below
--     above                           of two paths above one, which is the higher
--     HasBelow, Found                    something below a path;  something at or below it whose path has n names
--     any-found, found-any            an entry whose path passes a test
--     deepest-there                   an entry has as many names as the deepest one
--     has_entries-found, found-has_entries      a directory with entries
--     TooDeep, too_deep-found, found-too_deep, deeper      what would have more than 8 names
use Rattle.std.proofs.Common.{◌≡◌, refl, sym, ◌∙◌, ap, subst, ◌⊎◌, inl, inr, Bool, true, false, cond, not, ◌||◌, ◌==◌, is_some, nat_lt, ne_eqb, Some, None, ℕ, ◌<◌, ◌≤◌, List, [], ◌∷◌, length, arith, true≢false, lt-ltb, ltb-true}
use Rattle.std.proofs.lemmas.Bool.{cases_lt, cases_Bool, or_cases, or_left, or_right}
use Rattle.std.specs.List.{list_any}
use Rattle.std.specs.FinMap.{entries, get-entries, get-retain_keys, len-entries}
use Rattle.std.specs.FinMap.Entries.{find}
use Rattle.cfdp_paths.specs.Paths.{Path, path_cmp, same_path, is_at_or_below, is_below, rebased}
use Rattle.cfdp_paths.proofs.Below.{at_or_below-itself, at_or_below-trans, at_or_below-antisym, prefixes_compare, is_below-Decides, length-rebased}
use Rattle.cfdp_actions.specs.Filestore.{Node, Filestore, node_at, inside, has_entries, tree_at, deepest_of}
use Rattle.cfdp_actions.proofs.Order.{kept_some, same_path-true, same_path-refl, same_path-is, still_there}
use Rattle.cfdp_actions.proofs.Moves.{find-tree_at}
use Rattle.cfdp_paths.proofs.InOrder.{path_antisym}
use Rattle.cfdp_paths.specs.PathMaps.{is_too_deep}

-- ---- paths

pub below-at : (x c : Path) → is_below x c ≡ true → is_at_or_below x c ≡ true
below-at x c h = ((is_below-Decides x c).0 h).0

pub below-trans : (x c p : Path) → is_below x c ≡ true → is_at_or_below c p ≡ true → is_below x p ≡ true
below-trans x c p h k =
    let parts = (is_below-Decides x c).0 h in
    (is_below-Decides x p).1 (
      at_or_below-trans x c p parts.0 k,
      λ e. parts.1
          (at_or_below-antisym x c parts.0 (subst (λ y. is_at_or_below c y ≡ true) (sym e) k)),
    )

pub below-under : (x p c : Path) → is_at_or_below x p ≡ true → is_below p c ≡ true → is_below x c ≡ true
below-under x p c h k =
    let parts = (is_below-Decides p c).0 k in
    (is_below-Decides x c).1 (at_or_below-trans x p c h parts.0, λ e. parts.1 (at_or_below-antisym p c parts.0 (subst (λ y. is_at_or_below y p ≡ true) e h)))

-- of two paths above one the first is at or below the second, unless the second is below it
pub above : (x c p : Path) → is_at_or_below x c ≡ true → is_at_or_below x p ≡ true → is_below p c ≡ false → is_at_or_below c p ≡ true
above x c p a b apart =
    elim (prefixes_compare x c p a b) [
      | inl h ↦ h
      | inr h ↦ elim (cases_Bool (same_path p c)) [
        | inl e ↦ subst (λ y. is_at_or_below c y ≡ true) (sym (same_path-true p c e)) (at_or_below-itself c)
        | inr f ↦ absurd (true≢false (sym ((is_below-Decides p c).1 (h, λ e. true≢false (sym (same_path-is p c e) ∙ f))) ∙ apart))
      ]
    ]

-- ---- what is below a path

-- something below p
pub record HasBelow (F : Filestore) (p : Path) : Type 0 where
  pub path : Path
  pub below : is_below path p ≡ true
  pub there : is_some (node_at F path) ≡ true

-- something at or below p whose path has n names
pub record Found (G : Filestore) (p x : Path) (n : ℕ) : Type 0 where
  pub path : Path
  pub at : is_at_or_below path p ≡ true
  pub below : is_below x p ≡ true → is_below path p ≡ true
  pub there : is_some (node_at G path) ≡ true
  pub deep : n ≤ length path

-- an entry whose path passes a test
pub any-found : (test : Path → Bool) (es : List (Path × Node)) → list_any (λ (e : Path × Node). test e.0) es ≡ true → (x : Path) × (test x ≡ true)
    × (is_some (find path_cmp x es) ≡ true)
any-found test [] h = absurd (true≢false (sym h))
any-found test (e ∷ es) h =
    elim (or_cases (test e.0) (list_any (λ (e : Path × Node). test e.0) es) h) [
      | inl t ↦ (e.0, t, ap (λ b. is_some (cond b (Some e.1) (find path_cmp e.0 es))) (same_path-refl e.0))
      | inr r ↦
          let found = any-found test es r in
          (found.0, found.1, still_there (same_path found.0 e.0) e.1 (find path_cmp found.0 es) found.2)
    ]

pub found-any : {X : Type 0} (test : Path → Bool) (es : List (Path × X)) (x : Path) → test x ≡ true → is_some (find path_cmp x es) ≡ true →
    list_any (λ (e : Path × X). test e.0) es ≡ true
found-any test [] x t s = absurd (true≢false (sym s))
found-any {X} test (e ∷ es) x t s =
    elim (same_path x e.0) as (λ b. same_path x e.0 ≡ b → is_some (cond b (Some e.1) (find path_cmp x es)) ≡ true →
    list_any (λ (e : Path × X). test e.0) (e ∷ es) ≡ true) [
      | true ↦ λ same s. or_left _ (list_any (λ (e : Path × X). test e.0) es) (subst (λ y. test y ≡ true) (same_path-true x e.0 same) t)
      | false ↦ λ other s. or_right (test e.0) _ (found-any test es x t s)
    ] refl s

pub some_entry : (es : List (Path × Node)) → not (length es == 0) ≡ list_any (λ (e : Path × Node). true) es
some_entry [] = refl
some_entry (e ∷ es) = ap not (ne_eqb (length (e ∷ es)) 0 (λ same. omega arith))

find-inside : (F : Filestore) (p x : Path) → find path_cmp x (entries (inside F p)) ≡ cond (is_below x p) (node_at F x) None
find-inside F p x = sym (get-entries (inside F p) x) ∙ get-retain_keys F.nodes (λ q. is_below q p) x (λ y e. ap (λ z. is_below z p) (sym (path_antisym x y e)))

entries-any : (F : Filestore) (p : Path) → has_entries F p ≡ list_any (λ (e : Path × Node). true) (entries (inside F p))
entries-any F p = ap (λ n. not (n == 0)) (len-entries (inside F p)) ∙ some_entry (entries (inside F p))

pub has_entries-found : (F : Filestore) (p : Path) → has_entries F p ≡ true → HasBelow F p
has_entries-found F p h =
    let found = any-found (λ x. true) (entries (inside F p)) (sym (entries-any F p) ∙ h) in
    let kept = kept_some (is_below found.0 p) (node_at F found.0) (ap is_some (sym (find-inside F p found.0)) ∙ found.2) in
    record { path = found.0; below = kept.0; there = kept.1 }

pub found-has_entries : (F : Filestore) (p x : Path) → is_below x p ≡ true → is_some (node_at F x) ≡ true → has_entries F p ≡ true
found-has_entries F p x below there =
    entries-any F p ∙ found-any (λ x. true) (entries (inside F p)) x refl (ap is_some (find-inside F p x ∙ ap (λ b. cond b (node_at F x) None) below) ∙ there)

pub deepest-there : (es : List (Path × Node)) → 0 < deepest_of es → (x : Path) × (is_some (find path_cmp x es) ≡ true) × (length x ≡ deepest_of es)
deepest-there [] h = absurd (omega arith)
deepest-there (e ∷ es) h = by_first (λ k. deepest-there es k) (cases_lt (length e.0) (deepest_of es))
  where
    by_first : (0 < deepest_of es → (x : Path) × (is_some (find path_cmp x es) ≡ true) × (length x ≡ deepest_of es)) → (length e.0 < deepest_of es)
        ⊎ (deepest_of es ≤ length e.0) → (x : Path) × (is_some (find path_cmp x (e ∷ es)) ≡ true) × (length x ≡ deepest_of (e ∷ es))
    by_first later (inr le) = (e.0, ap (λ b. is_some (cond b (Some e.1) (find path_cmp e.0 es))) (same_path-refl e.0), omega arith)
    by_first later (inl more) =
        let rest = later (omega arith) in
        (rest.0, still_there (same_path rest.0 e.0) e.1 (find path_cmp rest.0 es) rest.1, let e = rest.2 in omega (arith, e, more))

deep-any : (p q : Path) (es : List (Path × Node)) → is_too_deep p q es ≡ list_any (λ (e : Path × Node). nat_lt 8 (length (rebased p q e.0))) es
deep-any p q [] = refl
deep-any p q (e ∷ es) = ap (λ b. nat_lt 8 (length (rebased p q e.0)) || b) (deep-any p q es)

pub record TooDeep (F : Filestore) (p q : Path) : Type 0 where
  pub path : Path
  pub at : is_at_or_below path p ≡ true
  pub there : is_some (node_at F path) ≡ true
  pub deep : nat_lt 8 (length (rebased p q path)) ≡ true

pub too_deep-found : (F : Filestore) (p q : Path) → is_too_deep p q (tree_at F p) ≡ true → TooDeep F p q
too_deep-found F p q h =
    let found = any-found (λ x. nat_lt 8 (length (rebased p q x))) (tree_at F p) (sym (deep-any p q (tree_at F p)) ∙ h) in
    let kept = kept_some (is_at_or_below found.0 p) (node_at F found.0) (ap is_some (sym (find-tree_at F p found.0)) ∙ found.2) in
    record { path = found.0; at = kept.0; there = kept.1; deep = found.1 }

pub found-too_deep : (F : Filestore) (p q : Path) → TooDeep F p q → is_too_deep p q (tree_at F p) ≡ true
found-too_deep F p q d =
    deep-any p q (tree_at F p)
    ∙ found-any (λ x. nat_lt 8 (length (rebased p q x))) (tree_at F p) d.path d.deep
    (ap is_some (find-tree_at F p d.path ∙ ap (λ b. cond b (node_at F d.path) None) d.at) ∙ d.there)

pub deeper : (p q x y : Path) → length x ≤ length y → nat_lt 8 (length (rebased p q x)) ≡ true → nat_lt 8 (length (rebased p q y)) ≡ true
deeper p q x y le h =
    let more : 8 < length (rebased p q x) = ltb-true 8 (length (rebased p q x)) h in
    lt-ltb 8 (length (rebased p q y)) (omega (arith, le, more, length-rebased p q x, length-rebased p q y))
