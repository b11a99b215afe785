-- What is found in lists, and what is true of each element.
use Rattle.std.proofs.Common.{◌≡◌, ℕ, zero, suc, ◌+◌, ◌<◌, List, [], ◌∷◌, ◌++◌, length, get_or, Bool, true, false, cond, ltb, not, Some, None, position, find, All, sym, refl, ap, ◌∙◌, arith}
use Rattle.std.specs.List.{AllByRecursion, position_or_len, range_with_len}
use Rattle.std.proofs.lemmas.List.FromFn.{length-range_with_len, get_or-range_with_len}
use Rattle.std.proofs.lemmas.List.Sums.{position_or_len_is, fails_before_first}
use Rattle.std.proofs.lemmas.Bool.{lt-ltb, le-ltb, ltb-false, not-false}

pub found_at : {X : Type 0} (p : X → Bool) (xs : List X) (i : ℕ) (d : X) → i < length xs → ((k : ℕ) → k < i → p (get_or xs k d) ≡ false)
    → p (get_or xs i d) ≡ true → position p xs ≡ Some i
found_at p xs i d lt fails passes =
    ap (λ n. cond (ltb n (length xs)) (Some n) None) (position_or_len_is p xs i d (omega arith) fails (λ _. passes))
    ∙ ap (λ b. cond b (Some i) None) (lt-ltb i (length xs) lt)

pub found_nowhere : {X : Type 0} (p : X → Bool) (xs : List X) → ((k : ℕ) (d : X) → k < length xs → p (get_or xs k d) ≡ false) → position p xs ≡ None
found_nowhere p [] fails = refl
found_nowhere p (x ∷ xs) fails =
    ap (λ n. cond (ltb n (length (x ∷ xs))) (Some n) None)
    (position_or_len_is p (x ∷ xs) (length (x ∷ xs)) x (omega arith) (λ k h. fails k x h) (λ h. absurd (omega arith)))
    ∙ ap (λ b. cond b (Some (length (x ∷ xs))) None) (le-ltb (length (x ∷ xs)) (length (x ∷ xs)) (omega arith))

pub each_by_recursion : {X : Type 0} (P : X → Type 0) (xs : List X) → All P xs → AllByRecursion P xs
each_by_recursion P [] all = tt
each_by_recursion P (x ∷ xs) all = (all zero x (omega arith), each_by_recursion P xs (λ k d h. all (suc k) d (omega arith)))

pub each_at : {X : Type 0} (P : X → Type 0) (xs : List X) (i : ℕ) (d : X) → AllByRecursion P xs → i < length xs → P (get_or xs i d)
each_at P [] i d all lt = absurd (omega arith)
each_at P (x ∷ xs) zero d all lt = all.0
each_at P (x ∷ xs) (suc i) d all lt = each_at P xs i d all.1 (omega arith)

pub range_more : (a n : ℕ) → range_with_len a (suc n) ≡ range_with_len a n ++ (a + n) ∷ []
range_more a zero = let e : a ≡ a + 0 = omega arith in ap (λ (x : ℕ). x ∷ []) e
range_more a (suc n) =
    let e : a + 1 + n ≡ a + suc n = omega arith in
    ap (λ (l : List ℕ). a ∷ l) (range_more (a + 1) n) ∙ ap (λ (x : ℕ). a ∷ (range_with_len (a + 1) n ++ x ∷ [])) e

pub range_pushed : (n : ℕ) → range_with_len 0 (n + 1) ≡ range_with_len 0 n ++ n ∷ []
range_pushed n =
    let e : n + 1 ≡ suc n = omega arith in
    let f : 0 + n ≡ n = omega arith in
    ap (range_with_len 0) e ∙ range_more 0 n ∙ ap (λ (x : ℕ). range_with_len 0 n ++ x ∷ []) f

-- what is found first among tests is found first among the numbers at which they were made
pub found_by_number : (tests : List Bool) (f : ℕ → Bool) (a : ℕ) → ((k : ℕ) → k < length tests → get_or tests k true ≡ f (a + k))
    → position_or_len not tests ≡ position_or_len (λ n. not (f n)) (range_with_len a (length tests))
found_by_number [] f a same = refl
found_by_number (test ∷ tests) f a same =
    let at : a + 0 ≡ a = omega arith in
    let head : test ≡ f a = same 0 (omega arith) ∙ ap f at in
    let rest : position_or_len not tests ≡ position_or_len (λ n. not (f n)) (range_with_len (a + 1) (length tests)) =
    found_by_number tests f (a + 1) (λ k h. let next : a + suc k ≡ a + 1 + k = omega arith in same (suc k) (omega arith) ∙ ap f next) in
    ap (λ t. cond (not (not t)) (1 + position_or_len not tests) 0) head ∙ ap (λ n. cond (not (not (f a))) (1 + n) 0) rest

pub found_among : (tests : List Bool) (f : ℕ → Bool) (count : ℕ) → length tests ≡ count → ((k : ℕ) → k < count → get_or tests k true ≡ f k)
    → position not tests ≡ position (λ n. not (f n)) (range_with_len 0 count)
found_among tests f count long same =
    let at : (k : ℕ) → k < length tests → get_or tests k true ≡ f (0 + k) =
    λ k h. let e : k ≡ 0 + k = omega arith in same k (omega (arith, long)) ∙ ap f e in
    let number : position_or_len not tests ≡ position_or_len (λ n. not (f n)) (range_with_len 0 count) =
    found_by_number tests f 0 at ∙ ap (λ m. position_or_len (λ n. not (f n)) (range_with_len 0 m)) long in
    let among : length tests ≡ length (range_with_len 0 count) = long ∙ sym (length-range_with_len 0 count) in
    let first : ℕ = position_or_len (λ n. not (f n)) (range_with_len 0 count) in
    ap (λ n. cond (ltb n (length tests)) (Some n) None) number ∙ ap (λ m. cond (ltb first m) (Some first) None) among

-- where none is found, each fails the test
by_first : {X : Type 0} (p : X → Bool) (x : X) (xs : List X) (b : Bool) → p x ≡ b → cond b (Some x) (find p xs) ≡ None
    → (find p xs ≡ None → AllByRecursion (λ y. p y ≡ false) xs) → AllByRecursion (λ y. p y ≡ false) (x ∷ xs)
by_first p x xs true is none rest = absurd cc
by_first p x xs false is none rest = (is, rest none)

pub each_fails : {X : Type 0} (p : X → Bool) (xs : List X) → find p xs ≡ None → AllByRecursion (λ x. p x ≡ false) xs
each_fails p [] none = tt
each_fails p (x ∷ xs) none = by_first p x xs (p x) refl none (each_fails p xs)

pub each_weaker : {X : Type 0} (P Q : X → Type 0) → ((x : X) → P x → Q x) → (xs : List X) → AllByRecursion P xs → AllByRecursion Q xs
each_weaker P Q weaker [] all = tt
each_weaker P Q weaker (x ∷ xs) all = (weaker x all.0, each_weaker P Q weaker xs all.1)

before_by : (first long k : ℕ) (b : Bool) → ltb first long ≡ b → cond b (Some first) None ≡ None → k < long → k < first
before_by first long k true is none lt = absurd cc
before_by first long k false is none lt = omega (arith, ltb-false first long is)

before : (first long k : ℕ) → cond (ltb first long) (Some first) None ≡ None → k < long → k < first
before first long k none lt = before_by first long k (ltb first long) refl none lt

-- where nothing is found, each element fails the test
pub nowhere_fails : {X : Type 0} (p : X → Bool) (xs : List X) (k : ℕ) (d : X) → position p xs ≡ None → k < length xs → p (get_or xs k d) ≡ false
nowhere_fails p xs k d none lt = fails_before_first p xs k d (before (position_or_len p xs) (length xs) k none lt)

-- where nothing is found among numbers from 0 on, each passes
pub each_passes : (f : ℕ → Bool) (count : ℕ) → position (λ n. not (f n)) (range_with_len 0 count) ≡ None → (k : ℕ) → k < count → f k ≡ true
each_passes f count none k lt =
    let e : get_or (range_with_len 0 count) k 0 ≡ k = get_or-range_with_len 0 count k 0 lt ∙ (let z : 0 + k ≡ k = omega arith in z) in
    let fails : not (f (get_or (range_with_len 0 count) k 0)) ≡ false =
    nowhere_fails (λ n. not (f n)) (range_with_len 0 count) k 0 none (omega (arith, length-range_with_len 0 count)) in
    not-false (f k) (sym (ap (λ n. not (f n)) e) ∙ fails)
