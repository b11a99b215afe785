-- Lists by index: what is at an index after one element is replaced, added at the end, or taken out; and sums.
use Rattle.std.proofs.Common.{◌≡◌, ◌≢◌, ℕ, zero, suc, ◌+◌, ◌≤◌, ◌<◌, List, [], ◌∷◌, ◌++◌, length, ◌⊎◌, refl, ap, arith}
use Rattle.std.specs.Prelude.{Some, slice_get, slice_set, remove}
use mathlib.Core.Logic.{inl, inr}

-- what is at j after x is put at k
pub set_cases : {X : Type 0} (t : List X) (k : ℕ) (new : X) (j : ℕ) (x : X) → slice_get (slice_set t k new) j ≡ Some x → ((j ≡ k) × (x ≡ new))
    ⊎ ((j ≢ k) × (slice_get t j ≡ Some x))
set_cases [] k new j x h = inr ((λ e. cc), h)
set_cases (y ∷ t) zero new zero x h = inl (refl, cc)
set_cases (y ∷ t) zero new (suc j) x h = inr ((λ e. absurd (omega arith)), h)
set_cases (y ∷ t) (suc k) new zero x h = inr ((λ e. absurd (omega arith)), h)
set_cases (y ∷ t) (suc k) new (suc j) x h = elim (set_cases t k new j x h) [ inl p ↦ inl (ap suc p.0, p.1) | inr p ↦ inr ((λ e. p.0 (omega arith)), p.1) ]

-- one fact for the new element, and one for the others
pub set_each : {X : Type 0} (P : ℕ → X → Type 0) (t : List X) (k : ℕ) (new : X) → P k new → ((j : ℕ) (x : X) → slice_get t j ≡ Some x → j ≢ k → P j x) →
    (j : ℕ) (x : X) → slice_get (slice_set t k new) j ≡ Some x → P j x
set_each P t k new here others j x h = elim (set_cases t k new j x h) [ inl p ↦ rw (p.0, p.1) here | inr p ↦ others j x p.1 p.0 ]

pub set_two : {X : Type 0} (R : X → X → Type 0) (t : List X) (k : ℕ) (new : X) →
    ((j : ℕ) (x : X) → slice_get t j ≡ Some x → j ≢ k → R x new × R new x) →
    ((i j : ℕ) (x y : X) → slice_get t i ≡ Some x → slice_get t j ≡ Some y → i ≢ j → R x y) →
    (i j : ℕ) (x y : X) → slice_get (slice_set t k new) i ≡ Some x → slice_get (slice_set t k new) j ≡ Some y → i ≢ j → R x y
set_two {X} R t k new one two i j x y g h ne =
    set_each (λ (a : ℕ) (u : X). a ≢ j → R u y) t k new
    (λ kj. set_each (λ (b : ℕ) (v : X). k ≢ b → R new v) t k new (λ kk. absurd (kk refl)) (λ b v at nb kb. (one b v at nb).1) j y h kj)
    (λ a u at na aj. set_each (λ (b : ℕ) (v : X). a ≢ b → R u v) t k new (λ _. (one a u at na).0) (λ b v at_b nb ab. two a b u v at at_b ab) j y h aj)
    i x g ne

-- what is at j after x is added at the end
pub append_cases : {X : Type 0} (t : List X) (new : X) (j : ℕ) (x : X) → slice_get (t ++ new ∷ []) j ≡ Some x → ((j ≡ length t) × (x ≡ new))
    ⊎ ((j < length t) × (slice_get t j ≡ Some x))
append_cases [] new zero x h = inl (refl, cc)
append_cases [] new (suc j) x h = absurd cc
append_cases (y ∷ t) new zero x h = inr (omega arith, h)
append_cases (y ∷ t) new (suc j) x h = elim (append_cases t new j x h) [ inl p ↦ inl (ap suc p.0, p.1) | inr p ↦ inr (omega (arith, p.0), p.1) ]

pub append_each : {X : Type 0} (P : ℕ → X → Type 0) (t : List X) (new : X) → P (length t) new → ((j : ℕ) (x : X) → slice_get t j ≡ Some x → P j x) →
    (j : ℕ) (x : X) → slice_get (t ++ new ∷ []) j ≡ Some x → P j x
append_each P t new here others j x h = elim (append_cases t new j x h) [ inl p ↦ rw (p.0, p.1) here | inr p ↦ others j x p.1 ]

pub append_two : {X : Type 0} (R : X → X → Type 0) (t : List X) (new : X) →
    ((j : ℕ) (x : X) → slice_get t j ≡ Some x → R x new × R new x) →
    ((i j : ℕ) (x y : X) → slice_get t i ≡ Some x → slice_get t j ≡ Some y → i ≢ j → R x y) →
    (i j : ℕ) (x y : X) → slice_get (t ++ new ∷ []) i ≡ Some x → slice_get (t ++ new ∷ []) j ≡ Some y → i ≢ j → R x y
append_two {X} R t new one two i j x y g h ne =
    append_each (λ (a : ℕ) (u : X). a ≢ j → R u y) t new
    (λ kj. append_each (λ (b : ℕ) (v : X). length t ≢ b → R new v) t new (λ kk. absurd (kk refl)) (λ b v at kb. (one b v at).1) j y h kj)
    (λ a u at aj. append_each (λ (b : ℕ) (v : X). a ≢ b → R u v) t new (λ _. (one a u at).0) (λ b v at_b ab. two a b u v at at_b ab) j y h aj)
    i x g ne

-- where the element that is at j after one was taken out at k was before
abbrev pub before : ℕ → ℕ → ℕ
before zero j = suc j
before (suc k) zero = zero
before (suc k) (suc j) = suc (before k j)

pub remove_index : {X : Type 0} (t : List X) (k j : ℕ) → slice_get (remove t k) j ≡ slice_get t (before k j)
remove_index [] zero j = refl
remove_index [] (suc k) zero = refl
remove_index [] (suc k) (suc j) = refl
remove_index (y ∷ t) zero j = refl
remove_index (y ∷ t) (suc k) zero = refl
remove_index (y ∷ t) (suc k) (suc j) = remove_index t k j

pub before_other : (k j : ℕ) → before k j ≢ k
before_other zero j e = absurd (omega arith)
before_other (suc k) zero e = absurd (omega arith)
before_other (suc k) (suc j) e = before_other k j (omega arith)

pub before_apart : (k i j : ℕ) → i ≢ j → before k i ≢ before k j
before_apart zero i j ne e = ne (omega arith)
before_apart (suc k) zero zero ne e = ne refl
before_apart (suc k) zero (suc j) ne e = absurd (omega arith)
before_apart (suc k) (suc i) zero ne e = absurd (omega arith)
before_apart (suc k) (suc i) (suc j) ne e = before_apart k i j (λ q. ne (ap suc q)) (omega arith)

pub length_remove : {X : Type 0} (t : List X) (k : ℕ) → length (remove t k) ≤ length t
length_remove [] zero = omega arith
length_remove [] (suc k) = omega arith
length_remove (y ∷ t) zero = omega arith
length_remove (y ∷ t) (suc k) = omega (arith, length_remove t k)

-- sums of a number of each element
module _ {X : Type 0} (f : X → ℕ) where
  abbrev pub total : List X → ℕ
  total [] = 0
  total (x ∷ xs) = f x + total xs

  pub total-set : (t : List X) (k : ℕ) (old new : X) → slice_get t k ≡ Some old → total (slice_set t k new) + f old ≡ total t + f new
  total-set [] k old new h = absurd cc
  total-set (y ∷ t) zero old new h = let e : y ≡ old = cc in rw e (omega arith)
  total-set (y ∷ t) (suc k) old new h = omega (arith, total-set t k old new h)

  pub total-append : (t : List X) (new : X) → total (t ++ new ∷ []) ≡ total t + f new
  total-append [] new = omega arith
  total-append (y ∷ t) new = omega (arith, total-append t new)

  pub total-remove : (t : List X) (k : ℕ) (old : X) → slice_get t k ≡ Some old → total (remove t k) + f old ≡ total t
  total-remove [] k old h = absurd cc
  total-remove (y ∷ t) zero old h = let e : y ≡ old = cc in rw e (omega arith)
  total-remove (y ∷ t) (suc k) old h = omega (arith, total-remove t k old h)

pub get_set_other : {X : Type 0} (t : List X) (k : ℕ) (new : X) (j : ℕ) → j ≢ k → slice_get (slice_set t k new) j ≡ slice_get t j
get_set_other [] k new j ne = refl
get_set_other (y ∷ t) zero new zero ne = absurd (ne refl)
get_set_other (y ∷ t) zero new (suc j) ne = refl
get_set_other (y ∷ t) (suc k) new zero ne = refl
get_set_other (y ∷ t) (suc k) new (suc j) ne = get_set_other t k new j (λ e. ne (ap suc e))

pub get_set_same : {X : Type 0} (t : List X) (k : ℕ) (new old : X) → slice_get t k ≡ Some old → slice_get (slice_set t k new) k ≡ Some new
get_set_same [] k new old h = absurd cc
get_set_same (y ∷ t) zero new old h = refl
get_set_same (y ∷ t) (suc k) new old h = get_set_same t k new old h

pub set_set_same : {X : Type 0} (t : List X) (k : ℕ) (a b : X) → slice_set (slice_set t k a) k b ≡ slice_set t k b
set_set_same [] k a b = refl
set_set_same (y ∷ t) zero a b = refl
set_set_same (y ∷ t) (suc k) a b = ap (λ (r : List _). y ∷ r) (set_set_same t k a b)

pub get_same : {X : Type 0} (t : List X) (j k : ℕ) (x y : X) → slice_get t j ≡ Some x → slice_get t k ≡ Some y → j ≡ k → x ≡ y
get_same t j k x y h g e = cc

-- where the element that is at j is after one is taken out at k
abbrev pub following : ℕ → ℕ → ℕ
following k zero = zero
following zero (suc j) = j
following (suc k) (suc j) = suc (following k j)

pub remove_others : {X : Type 0} (t : List X) (k j : ℕ) → j ≢ k → slice_get (remove t k) (following k j) ≡ slice_get t j
remove_others [] zero j ne = refl
remove_others [] (suc k) j ne = refl
remove_others (y ∷ t) zero zero ne = absurd (ne refl)
remove_others (y ∷ t) zero (suc j) ne = refl
remove_others (y ∷ t) (suc k) zero ne = refl
remove_others (y ∷ t) (suc k) (suc j) ne = remove_others t k j (λ e. ne (ap suc e))

pub get_append : {X : Type 0} (t : List X) (new : X) (j : ℕ) (x : X) → slice_get t j ≡ Some x → slice_get (t ++ new ∷ []) j ≡ Some x
get_append [] new j x h = absurd cc
get_append (y ∷ t) new zero x h = h
get_append (y ∷ t) new (suc j) x h = get_append t new j x h

pub set_get_same : {X : Type 0} (t : List X) (k : ℕ) (x : X) → slice_get t k ≡ Some x → slice_set t k x ≡ t
set_get_same [] k x h = refl
set_get_same (y ∷ t) zero x h = let e : y ≡ x = cc in rw e refl
set_get_same (y ∷ t) (suc k) x h = ap (λ (r : List _). y ∷ r) (set_get_same t k x h)
