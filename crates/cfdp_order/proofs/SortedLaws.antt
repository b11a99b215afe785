-- Lists each of whose elements is in a relation with each later one, as names that rise.
--     head_pairs, tail_pairs     the first element with the later ones, and the later ones
--     pairs_with                 one element more, between two parts
--     pairs_without              one element less
--     splits_from, splits_after  the index of what is sought in such a list
use Rattle.std.proofs.Common.{◌≡◌, ◌≢◌, ℕ, zero, suc, ◌⊎◌, inl, inr, List, [], ◌∷◌, ◌++◌, refl, arith}
use Rattle.std.specs.Prelude.{All, AllPairs}
use Rattle.std.specs.declared.cmp.Ordering.{Ordering}
use Rattle.std.specs.declared.cmp.Ordering.TheVariants.{Less, Equal, Greater}
use Rattle.std.proofs.lemmas.List.Elements.{All-head, All-tail, All-cons, All-nil, All-append, All-weaker}
use Rattle.std.proofs.lemmas.List.Kept.{AllPairs-cons}
use Rattle.cfdp_order.specs.Orders.{SplitsFrom, SplitsAfter}
use Rattle.cfdp_order.proofs.SplitLaws.{All_left, All_right, All_back, All_front}

pub head_pairs : (R : ℕ → ℕ → Type 0) (x : ℕ) (xs : List ℕ) → AllPairs R (x ∷ xs) → All (R x) xs
head_pairs R x xs pairs k d less = pairs zero (suc k) d (omega arith) (omega arith)

pub tail_pairs : (R : ℕ → ℕ → Type 0) (x : ℕ) (xs : List ℕ) → AllPairs R (x ∷ xs) → AllPairs R xs
tail_pairs R x xs pairs i j d rising less = pairs (suc i) (suc j) d (omega arith) (omega arith)

pub pairs_with : (R : ℕ → ℕ → Type 0) (before : List ℕ) (node : ℕ) (after : List ℕ) → AllPairs R (before ++ after) → All (λ m. R m node) before →
    All (R node) after → AllPairs R (before ++ node ∷ after)
pairs_with R [] node after pairs front back = AllPairs-cons R node after back pairs
pairs_with R (x ∷ before) node after pairs front back =
    let all = head_pairs R x (before ++ after) pairs in
    AllPairs-cons R x (before ++ node ∷ after)
    (All-append (R x) before (node ∷ after) (All_front (R x) before after all)
    (All-cons (R x) node after (All-head (λ m. R m node) x before front) (All_back (R x) before after all)))
    (pairs_with R before node after (tail_pairs R x (before ++ after) pairs) (All-tail (λ m. R m node) x before front) back)

pub pairs_without : (R : ℕ → ℕ → Type 0) (before : List ℕ) (node : ℕ) (after : List ℕ) → AllPairs R (before ++ node ∷ after) → AllPairs R (before ++ after)
pairs_without R [] node after pairs = tail_pairs R node after pairs
pairs_without R (x ∷ before) node after pairs =
    let all = head_pairs R x (before ++ node ∷ after) pairs in
    AllPairs-cons R x (before ++ after) (All-append (R x) before after (All_left (R x) before node after all) (All_right (R x) before node after all))
    (pairs_without R before node after (tail_pairs R x (before ++ node ∷ after) pairs))

-- those that pass a test are the first ones
split_where : (P : ℕ → Type 0) → ((n : ℕ) → P n ⊎ (P n → ⊥)) → (list : List ℕ) → AllPairs (λ m n. P n → P m) list
    → (before : List ℕ) × (after : List ℕ) × (list ≡ before ++ after) × All P before × All (λ n. P n → ⊥) after
split_where P test [] pairs = ([], [], refl, All-nil P, All-nil (λ n. P n → ⊥))
split_where P test (x ∷ list) pairs = go (test x)
    (split_where P test list (tail_pairs (λ m n. P n → P m) x list pairs))
  where
    Parted : List ℕ → Type 0
    Parted l = (before : List ℕ) × (after : List ℕ) × (l ≡ before ++ after) × All P before × All (λ n. P n → ⊥) after

    go : P x ⊎ (P x → ⊥) → Parted list → Parted (x ∷ list)
    go (inl passes) rest = (x ∷ rest.0, rest.1, (λ i. x ∷ rest.2 i), All-cons P x rest.0 passes rest.3, rest.4)
    go (inr fails) rest = (
      [],
      x ∷ list,
      refl,
      All-nil P,
      All-cons (λ n. P n → ⊥) x list fails (All-weaker (λ n. P n → P x) (λ n. P n → ⊥) (λ n back p. fails (back p)) list
          (head_pairs (λ m n. P n → P m) x list pairs)),
    )

is_less : (o : Ordering) → (o ≡ Less) ⊎ (o ≢ Less)
is_less Less = inl refl
is_less Equal = inr (λ e. cc)
is_less Greater = inr (λ e. cc)

is_greater : (o : Ordering) → (o ≢ Greater) ⊎ ((o ≢ Greater) → ⊥)
is_greater Less = inl (λ e. cc)
is_greater Equal = inl (λ e. cc)
is_greater Greater = inr (λ other. other refl)

not_other : (o : Ordering) → ((o ≢ Greater) → ⊥) → o ≡ Greater
not_other Less wrong = absurd (wrong (λ e. cc))
not_other Equal wrong = absurd (wrong (λ e. cc))
not_other Greater wrong = refl

pub splits_from : (side : ℕ → Ordering) (list : List ℕ) → AllPairs (λ m n. side n ≡ Less → side m ≡ Less) list → (before : List ℕ) × (after : List ℕ)
    × (list ≡ before ++ after) × SplitsFrom side before after
splits_from side list pairs =
    let s = split_where (λ n. side n ≡ Less) (λ n. is_less (side n)) list pairs in
    (s.0, s.1, s.2, record { less = s.3; rest = s.4 })

pub splits_after : (side : ℕ → Ordering) (list : List ℕ) → AllPairs (λ m n. side m ≡ Greater → side n ≡ Greater) list
    → (before : List ℕ) × (after : List ℕ) × (list ≡ before ++ after) × SplitsAfter side before after
splits_after side list pairs =
    let back : AllPairs (λ m n. side n ≢ Greater → side m ≢ Greater) list = (λ i j d rising less other more. other (pairs i j d rising less more)) in
    let s = split_where (λ n. side n ≢ Greater) (λ n. is_greater (side n)) list back in (
      s.0,
      s.1,
      s.2,
      record {
        rest = s.3;
        greater = All-weaker (λ n. (side n ≢ Greater) → ⊥) (λ n. side n ≡ Greater)
            (λ n wrong. not_other (side n) wrong) s.1 s.4;
      },
    )
