-- Membership of paths in lists and in finite sets.
--     exists q xs                  the path is one of the list
--     all_from, all_at             `AllByRecursion` by membership
--     any_in-from, any_in-at       whether a path of a set passes a test
use Rattle.std.proofs.Common.{◌≡◌, sym, ◌∙◌, subst, Bool, true, ◌||◌, ◌⊎◌, inl, inr, List, [], ◌∷◌, ◌++◌, zero, suc, arith, Contains}
use Rattle.std.specs.Prelude.{flat_map}
use Rattle.std.specs.List.{list_any, AllByRecursion}
use Rattle.std.specs.FinSet as set
use Rattle.std.proofs.lemmas.Bool.{or_cases, true≢false, or_left, or_right}
use Rattle.std.proofs.lemmas.List.Folds.{list_any-append}
use Rattle.cfdp_paths.specs.Paths.{Path, path_cmp, same_path}
use Rattle.cfdp_paths.proofs.Comparing.{same_path-Decides, path_cmp-total}
use Rattle.cfdp_leases.specs.Footprint.{PathSet, any_in}
use Rattle.cfdp_actions.proofs.Order.{same_path-refl}
use Rattle.cfdp_actions.proofs.Truths.{by_truth}

-- ---- booleans

-- ---- lists

-- the path is one of the list
abbrev pub exists : Path → List Path → Type 0
exists q xs = list_any (same_path q) xs ≡ true

pub exists-append_left : (q : Path) (xs ys : List Path) → exists q xs → exists q (xs ++ ys)
exists-append_left q xs ys h = list_any-append (same_path q) xs ys ∙ or_left _ (list_any (same_path q) ys) h

pub exists-append_right : (q : Path) (xs ys : List Path) → exists q ys → exists q (xs ++ ys)
exists-append_right q xs ys h = list_any-append (same_path q) xs ys ∙ or_right (list_any (same_path q) xs) _ h

pub exists-append_cases : (q : Path) (xs ys : List Path) → exists q (xs ++ ys) → exists q xs ⊎ exists q ys
exists-append_cases q xs ys h = or_cases _ _ (sym (list_any-append (same_path q) xs ys) ∙ h)

pub any_at : (test : Path → Bool) (xs : List Path) (q : Path) → exists q xs → test q ≡ true → list_any test xs ≡ true
any_at test [] q h t = absurd (true≢false (sym h))
any_at test (x ∷ xs) q h t =
    elim (or_cases (same_path q x) (list_any (same_path q) xs) h) [
      | inl e ↦ or_left (test x) _ (subst (λ y. test y ≡ true) ((same_path-Decides q x).0 e) t)
      | inr r ↦ or_right (test x) _ (any_at test xs q r t)
    ]

pub any_from : (test : Path → Bool) (xs : List Path) → list_any test xs ≡ true → (q : Path) × exists q xs × (test q ≡ true)
any_from test [] h = absurd (true≢false (sym h))
any_from test (x ∷ xs) h =
    elim (or_cases (test x) (list_any test xs) h) [
      | inl t ↦ (x, or_left _ _ (same_path-refl x), t)
      | inr r ↦ let found = any_from test xs r in (found.0, or_right (same_path found.0 x) _ found.1, found.2)
    ]

pub all_at : (P : Path → Type 0) (xs : List Path) (q : Path) → AllByRecursion P xs → exists q xs → P q
all_at P [] q all h = absurd (true≢false (sym h))
all_at P (x ∷ xs) q all h =
    elim (or_cases (same_path q x) (list_any (same_path q) xs) h) [
      | inl e ↦ subst P (sym ((same_path-Decides q x).0 e)) all.0
      | inr r ↦ all_at P xs q all.1 r
    ]

pub all_from : (P : Path → Type 0) (xs : List Path) → ((q : Path) → exists q xs → P q) → AllByRecursion P xs
all_from P [] each = tt
all_from P (x ∷ xs) each =
    (each x (or_left _ _ (same_path-refl x)), all_from P xs (λ q h. each q (or_right (same_path q x) _ h)))

pub exists-flat_map : (f : Path → List Path) (xs : List Path) (x q : Path) → exists x xs → exists q (f x) → exists q (flat_map f xs)
exists-flat_map f [] x q h g = absurd (true≢false (sym h))
exists-flat_map f (y ∷ xs) x q h g =
    elim (or_cases (same_path x y) (list_any (same_path x) xs) h) [
      | inl e ↦ exists-append_left q (f y) (flat_map f xs) (subst (λ z. exists q (f z)) ((same_path-Decides x y).0 e) g)
      | inr r ↦ exists-append_right q (f y) (flat_map f xs) (exists-flat_map f xs x q r g)
    ]

pub exists_in-flat_map : (f : Path → List Path) (xs : List Path) (q : Path) → exists q (flat_map f xs) → (x : Path) × exists x xs × exists q (f x)
exists_in-flat_map f [] q h = absurd (true≢false (sym h))
exists_in-flat_map f (y ∷ xs) q h =
    elim (exists-append_cases q (f y) (flat_map f xs) h) [
      | inl g ↦ (y, or_left _ _ (same_path-refl y), g)
      | inr r ↦ let found = exists_in-flat_map f xs q r in (found.0, or_right (same_path found.0 y) _ found.1, found.2)
    ]

pub exists_from_Contains : (q : Path) (xs : List Path) → Contains xs q → exists q xs
exists_from_Contains q [] (k, within, e) = absurd (omega arith)
exists_from_Contains q (x ∷ xs) (zero, within, e) = or_left _ _ ((same_path-Decides q x).1 (sym e))
exists_from_Contains q (x ∷ xs) (suc k, within, e) = or_right (same_path q x) _ (exists_from_Contains q xs (k, omega arith, e))

pub Contains_from_exists : (q : Path) (xs : List Path) → exists q xs → Contains xs q
Contains_from_exists q [] h = absurd (true≢false (sym h))
Contains_from_exists q (x ∷ xs) h =
    elim (or_cases (same_path q x) (list_any (same_path q) xs) h) [
      | inl e ↦ (zero, omega arith, sym ((same_path-Decides q x).0 e))
      | inr r ↦ let found = Contains_from_exists q xs r in (suc found.0, omega (arith, found.1), found.2)
    ]

-- ---- finite sets

pub contains_from_exists : (xs : List Path) (q : Path) → exists q xs → set.contains (set.from_list {R = path_cmp} xs) q ≡ true
contains_from_exists xs q h = set.contains-from_list path_cmp-total xs q ∙ h

pub exists_from_contains : (xs : List Path) (q : Path) → set.contains (set.from_list {R = path_cmp} xs) q ≡ true → exists q xs
exists_from_contains xs q h = sym (set.contains-from_list path_cmp-total xs q) ∙ h

pub any_in-at : (s : PathSet) (test : Path → Bool) (q : Path) → set.contains s q ≡ true → test q ≡ true → any_in s test ≡ true
any_in-at s test q h t = any_at test (set.items s) q (sym (set.contains-items s q) ∙ h) t

pub any_in-from : (s : PathSet) (test : Path → Bool) → any_in s test ≡ true → (q : Path) × (set.contains s q ≡ true) × (test q ≡ true)
any_in-from s test h = let found = any_from test (set.items s) h in (found.0, set.contains-items s found.0 ∙ found.1, found.2)

-- a set made of a list has its items
pub any_in-from_list : (test : Path → Bool) (xs : List Path) → any_in (set.from_list xs) test ≡ list_any test xs
any_in-from_list test xs =
    by_truth _ _
    (λ h. let found = any_in-from (set.from_list xs) test h in any_at test xs found.0 (exists_from_contains xs found.0 found.1) found.2)
    (λ h. let found = any_from test xs h in any_in-at (set.from_list xs) test found.0 (contains_from_exists xs found.0 found.1) found.2)

pub union_left : (s t : PathSet) (q : Path) → set.contains s q ≡ true → set.contains (set.union s t) q ≡ true
union_left s t q h = set.contains-union path_cmp-total s t q ∙ or_left _ _ h

pub union_right : (s t : PathSet) (q : Path) → set.contains t q ≡ true → set.contains (set.union s t) q ≡ true
union_right s t q h = set.contains-union path_cmp-total s t q ∙ or_right (set.contains s q) _ h

pub union_cases : (s t : PathSet) (q : Path) → set.contains (set.union s t) q ≡ true → (set.contains s q ≡ true) ⊎ (set.contains t q ≡ true)
union_cases s t q h = or_cases _ _ (sym (set.contains-union path_cmp-total s t q) ∙ h)

pub any_in-union : (s t : PathSet) (test : Path → Bool) → any_in (set.union s t) test ≡ (any_in s test || any_in t test)
any_in-union s t test =
    by_truth _ _
    (λ h. let found = any_in-from (set.union s t) test h in
    elim (union_cases s t found.0 found.1) [
      | inl here ↦ or_left _ _ (any_in-at s test found.0 here found.2)
      | inr there ↦ or_right (any_in s test) _ (any_in-at t test found.0 there found.2)
    ])
    (λ h. elim (or_cases (any_in s test) (any_in t test) h) [
      | inl here ↦ let found = any_in-from s test here in any_in-at (set.union s t) test found.0 (union_left s t found.0 found.1) found.2
      | inr there ↦ let found = any_in-from t test there in any_in-at (set.union s t) test found.0 (union_right s t found.0 found.1) found.2
    ])
