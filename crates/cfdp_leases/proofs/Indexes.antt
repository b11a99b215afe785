-- The first grant that conflicts, by the paths of a footprint.
--     prefix_len-map, prefix_len-either      where a test first holds
--     find_at                      what is found there
--     conflict_at                  the first conflict is the first grant that leases one of the exclusive paths, or leases one
--                                  of the shared ones exclusively
use Rattle.std.proofs.Common.{◌≡◌, refl, sym, ◌∙◌, ap, ℕ, suc, ◌+◌, ◌<◌, min, Bool, true, false, cond, not, ◌||◌, inl, inr, List, [], ◌∷◌, ◌++◌, length, get_or, take, map, Some, arith}
use Rattle.std.specs.Prelude.{find, slice_get}
use Rattle.std.specs.Option.{option_map}
use Rattle.std.specs.List.{prefix_len, AllByRecursion}
use Rattle.std.specs.FinSet as set
use Rattle.std.proofs.Math.Bool.{or-false}
use Rattle.std.proofs.lemmas.Bool.{or_cases, or_left, or_right}
use Rattle.std.proofs.lemmas.List.{take_more}
use Rattle.std.proofs.lemmas.List.Folds.{list_any-append}
use Rattle.cfdp_paths.specs.Paths.{Path}
use Rattle.cfdp_leases.specs.Footprint.{PathSet, Footprint, leased, is_conflict}
use Rattle.cfdp_leases.specs.code.Footprint.{HasAncestors, has_any}
use Rattle.cfdp_leases.specs.Leases.{Grants, first_conflict}
use Rattle.cfdp_leases.proofs.Sets.{any_at, any_from, contains_from_exists, exists_from_contains, union_left, union_right, union_cases}
use Rattle.cfdp_leases.proofs.Conflict.{conflict_by_paths}
use Rattle.cfdp_actions.proofs.Truths.{by_truth}

-- ---- where a test first holds

pub prefix_len-map : {X Y : Type 0} (f : X → Y) (test : Y → Bool) (xs : List X) → prefix_len test (map f xs) ≡ prefix_len (λ x. test (f x)) xs
prefix_len-map f test [] = refl
prefix_len-map f test (x ∷ xs) = ap (λ n. cond (test (f x)) (1 + n) 0) (prefix_len-map f test xs)

pub prefix_len-none : {X : Type 0} (xs : List X) → length xs ≡ prefix_len (λ _. true) xs
prefix_len-none [] = refl
prefix_len-none (x ∷ xs) = omega (arith, prefix_len-none xs)

least : (a b : Bool) (n m : ℕ) → cond (not (a || b)) (1 + min n m) 0 ≡ min (cond (not a) (1 + n) 0) (cond (not b) (1 + m) 0)
least true true n m = omega arith
least true false n m = omega arith
least false true n m = omega arith
least false false n m = omega arith

pub prefix_len-either : {X : Type 0} (one other : X → Bool) (xs : List X)
    → prefix_len (λ x. not (one x || other x)) xs ≡ min (prefix_len (λ x. not (one x)) xs) (prefix_len (λ x. not (other x)) xs)
prefix_len-either one other [] = omega arith
prefix_len-either one other (x ∷ xs) =
    ap (λ n. cond (not (one x || other x)) (1 + n) 0) (prefix_len-either one other xs)
    ∙ least (one x) (other x) (prefix_len (λ y. not (one y)) xs) (prefix_len (λ y. not (other y)) xs)

found_or : {X : Type 0} (b : Bool) (x : X) (xs : List X) (n : ℕ) → cond b (Some x) (slice_get xs n) ≡ slice_get (x ∷ xs) (cond (not b) (suc n) 0)
found_or true x xs n = refl
found_or false x xs n = refl

pub find_at : {X : Type 0} (test : X → Bool) (xs : List X) → find test xs ≡ slice_get xs (prefix_len (λ x. not (test x)) xs)
find_at test [] = refl
find_at test (x ∷ xs) =
    ap (cond (test x) (Some x)) (find_at test xs)
    ∙ found_or (test x) x xs (prefix_len (λ y. not (test y)) xs)
    ∙ ap (λ n. slice_get (x ∷ xs) (cond (not (test x)) n 0)) (omega arith)

-- ---- one path more

any_more : (s : PathSet) (xs : List Path) (i : ℕ) (x : Path) → i < length xs → x ≡ get_or xs i x → (has_any s (take i xs) || set.contains s x)
    ≡ has_any s (take (i + 1) xs)
any_more s xs i x within read =
    ap (λ b. has_any s (take i xs) || b) (sym (or-false (set.contains s x)))
    ∙ sym (ap (has_any s) (take_more xs i x within ∙ ap (λ y. take i xs ++ y ∷ []) (sym read)) ∙ list_any-append (set.contains s) (take i xs) (x ∷ []))

pub first_more : (of : Footprint → PathSet) (gs : Grants) (xs : List Path) (i : ℕ) (x : Path) → i < length xs → x ≡ get_or xs i x
    → min (prefix_len (λ g. not (has_any (of g.1) (take i xs))) gs) (prefix_len (λ g. not (set.contains (of g.1) x)) gs)
    ≡ prefix_len (λ g. not (has_any (of g.1) (take (i + 1) xs))) gs
first_more of gs xs i x within read =
    sym (prefix_len-either (λ g. has_any (of g.1) (take i xs)) (λ g. set.contains (of g.1) x) gs)
    ∙ prefix_len-same (λ g. not (has_any (of g.1) (take i xs) || set.contains (of g.1) x)) (λ g. not (has_any (of g.1) (take (i + 1) xs))) gs
    (λ g. ap not (any_more (of g.1) xs i x within read))
  where
    prefix_len-same : {X : Type 0} (one other : X → Bool) (ys : List X) → ((y : X) → one y ≡ other y) → prefix_len one ys ≡ prefix_len other ys
    prefix_len-same one other [] same = refl
    prefix_len-same one other (y ∷ ys) same = λ j. cond (same y j) (1 + prefix_len-same one other ys same j) 0

-- ---- the first conflict

any_both : (s t : PathSet) (xs : List Path) (p : Path) → set.from_list xs ≡ t → set.contains t p ≡ true → set.contains s p ≡ true → has_any s xs ≡ true
any_both s t xs p paths there has = any_at (set.contains s) xs p (exists_from_contains xs p (ap (λ u. set.contains u p) paths ∙ there)) has

both_of : (s t : PathSet) (xs : List Path) → set.from_list xs ≡ t → has_any s xs ≡ true → (p : Path) × (set.contains t p ≡ true) × (set.contains s p ≡ true)
both_of s t xs paths any =
    let found = any_from (set.contains s) xs any in
    (found.0, sym (ap (λ u. set.contains u found.0) paths) ∙ contains_from_exists xs found.0 found.1, found.2)

-- two footprints conflict where one of them has an exclusive path of the other
pub conflict_by_lists : (A B : Footprint) (xs ys : List Path) → HasAncestors A → HasAncestors B → set.from_list xs ≡ B.exclusive → set.from_list ys ≡ B.shared
    → is_conflict A B ≡ (has_any (leased A) xs || has_any A.exclusive ys)
conflict_by_lists A B xs ys a b exclusive shared =
    by_truth (is_conflict A B) (has_any (leased A) xs || has_any A.exclusive ys)
    (λ conflict.
    let common = (conflict_by_paths A B a b).0 conflict in
    let p = common.0 in
    elim (or_cases (set.contains A.exclusive p) (set.contains B.exclusive p) common.3) [
      | inr theirs ↦ or_left (has_any (leased A) xs) (has_any A.exclusive ys) (any_both (leased A) B.exclusive xs p exclusive theirs common.1)
      | inl ours ↦ elim (union_cases B.exclusive B.shared p common.2) [
        | inl theirs ↦ or_left (has_any (leased A) xs) (has_any A.exclusive ys) (any_both (leased A) B.exclusive xs p exclusive theirs common.1)
        | inr read ↦ or_right (has_any (leased A) xs) (has_any A.exclusive ys) (any_both A.exclusive B.shared ys p shared read ours)
      ]
    ])
    (λ met. elim (or_cases (has_any (leased A) xs) (has_any A.exclusive ys) met) [
      | inl leases ↦
          let both = both_of (leased A) B.exclusive xs exclusive leases in
          (conflict_by_paths A B a b).1 (
            both.0,
            both.2,
            union_left B.exclusive B.shared both.0 both.1,
            or_right (set.contains A.exclusive both.0) (set.contains B.exclusive both.0) both.1,
          )
      | inr changes ↦
          let both = both_of A.exclusive B.shared ys shared changes in
          (conflict_by_paths A B a b).1 (
            both.0,
            union_left A.exclusive A.shared both.0 both.2,
            union_right B.exclusive B.shared both.0 both.1,
            or_left (set.contains A.exclusive both.0) (set.contains B.exclusive both.0) both.2,
          )
    ])

conflicts_at : (gs : Grants) (B : Footprint) (xs ys : List Path) → AllByRecursion (λ g. HasAncestors g.1) gs → HasAncestors B → set.from_list xs ≡ B.exclusive →
    set.from_list ys ≡ B.shared
    → prefix_len (λ g. not (is_conflict g.1 B)) gs ≡ prefix_len (λ g. not (has_any (leased g.1) xs || has_any g.1.exclusive ys)) gs
conflicts_at [] B xs ys all b exclusive shared = refl
conflicts_at (g ∷ gs) B xs ys all b exclusive shared =
    λ i. cond (not (conflict_by_lists g.1 B xs ys all.0 b exclusive shared i)) (1 + conflicts_at gs B xs ys all.1 b exclusive shared i) 0

pub conflict_at : (gs : Grants) (B : Footprint) (xs ys : List Path) → AllByRecursion (λ g. HasAncestors g.1) gs → HasAncestors B → set.from_list xs
    ≡ B.exclusive → set.from_list ys ≡ B.shared
    → first_conflict gs B ≡ option_map (λ g. g.0) (slice_get gs (min (prefix_len (λ g. not (has_any (leased g.1) xs)) gs)
    (prefix_len (λ g. not (has_any g.1.exclusive ys)) gs)))
conflict_at gs B xs ys all b exclusive shared =
    ap (option_map (λ g. g.0))
    (find_at (λ g. is_conflict g.1 B) gs
    ∙ ap (slice_get gs) (conflicts_at gs B xs ys all b exclusive shared ∙ prefix_len-either (λ g. has_any (leased g.1) xs) (λ g. has_any g.1.exclusive ys) gs))
