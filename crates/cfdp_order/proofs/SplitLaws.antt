-- A list of two parts that are distinguished, at a node of it.
--     split_right        a node of the first part: what comes after it
--     split_left         a node of the second part: what comes before it
use Rattle.std.proofs.Common.{◌≡◌, ℕ, List, [], ◌∷◌, ◌++◌, refl, sym, subst}
use Rattle.std.proofs.lemmas.List.Elements.{All-head, All-tail, All-cons, All-nil}
use Rattle.std.specs.Prelude.{All}

-- a node that is within a list
pub All_at : (P : ℕ → Type 0) (l : List ℕ) (x : ℕ) (r : List ℕ) → All P (l ++ x ∷ r) → P x
All_at P [] x r all = All-head P x r all
All_at P (y ∷ l) x r all = All_at P l x r (All-tail P y (l ++ x ∷ r) all)

pub All_front : (P : ℕ → Type 0) (l r : List ℕ) → All P (l ++ r) → All P l
All_front P [] r all = All-nil P
All_front P (y ∷ l) r all = All-cons P y l (All-head P y (l ++ r) all) (All_front P l r (All-tail P y (l ++ r) all))

pub All_back : (P : ℕ → Type 0) (l r : List ℕ) → All P (l ++ r) → All P r
All_back P [] r all = all
All_back P (y ∷ l) r all = All_back P l r (All-tail P y (l ++ r) all)

pub All_left : (P : ℕ → Type 0) (l : List ℕ) (x : ℕ) (r : List ℕ) → All P (l ++ x ∷ r) → All P l
All_left P l x r all = All_front P l (x ∷ r) all

pub All_right : (P : ℕ → Type 0) (l : List ℕ) (x : ℕ) (r : List ℕ) → All P (l ++ x ∷ r) → All P r
All_right P l x r all = All-tail P x r (All_back P l (x ∷ r) all)

pub record SplitRight (P : ℕ → Type 0) (l : List ℕ) (x : ℕ) (r before after : List ℕ) : Type 0 where
  pub rest : List ℕ
  pub before_is : before ≡ l ++ x ∷ rest
  pub right_is : r ≡ rest ++ after
  pub all : All P rest

same_head : {x y : ℕ} {r s : List ℕ} → (x ∷ r) ≡ (y ∷ s) → x ≡ y
same_head e = cc

same_tail : {x y : ℕ} {r s : List ℕ} → (x ∷ r) ≡ (y ∷ s) → r ≡ s
same_tail e = cc

pub split_right : (P Q : ℕ → Type 0) (l : List ℕ) (x : ℕ) (r before after : List ℕ) → l ++ x ∷ r ≡ before ++ after → All P before → All Q after → (Q x → ⊥) →
    SplitRight P l x r before after
split_right P Q l x r [] after e less more apart = absurd (apart (All_at Q l x r (subst (All Q) (sym e) more)))
split_right P Q [] x r (y ∷ before) after e less more apart = record {
  rest = before;
  before_is = (λ i. sym (same_head e) i ∷ before);
  right_is = same_tail e;
  all = All-tail P y before less;
}
split_right P Q (z ∷ l) x r (y ∷ before) after e less more apart =
    let s = split_right P Q l x r before after (same_tail e) (All-tail P y before less) more apart in
    record { rest = s.rest; before_is = (λ i. sym (same_head e) i ∷ s.before_is i); right_is = s.right_is; all = s.all }

pub record SplitLeft (Q : ℕ → Type 0) (l : List ℕ) (x : ℕ) (r before after : List ℕ) : Type 0 where
  pub rest : List ℕ
  pub after_is : after ≡ rest ++ x ∷ r
  pub left_is : l ≡ before ++ rest
  pub all : All Q rest

pub split_left : (P Q : ℕ → Type 0) (l : List ℕ) (x : ℕ) (r before after : List ℕ) → l ++ x ∷ r ≡ before ++ after → All P before → All Q after → (P x → ⊥) →
    SplitLeft Q l x r before after
split_left P Q l x r [] after e less more apart = record { rest = l; after_is = sym e; left_is = refl; all = All_left Q l x r (subst (All Q) (sym e) more) }
split_left P Q [] x r (y ∷ before) after e less more apart = absurd (apart (subst P (sym (same_head e)) (All-head P y before less)))
split_left P Q (z ∷ l) x r (y ∷ before) after e less more apart =
    let s = split_left P Q l x r before after (same_tail e) (All-tail P y before less) more apart in
    record { rest = s.rest; after_is = s.after_is; left_is = (λ i. same_head e i ∷ s.left_is i); all = s.all }
