-- What is appended one after the other.
--     two, three       two and three pieces of a text
--     all-append       a property of each element of two lists
use Rattle.std.proofs.Common.{◌≡◌, ◌∙◌, ap, ℕ, List, [], ◌∷◌, ◌++◌, append_assoc}
use Rattle.std.specs.List.{AllByRecursion}
use Rattle.std.specs.Prelude.{Result, Ok, Err, OnOk}

pub two : {T E : Type 0} (r : Result T E) (old mid new first second : List ℕ) → mid ≡ old ++ first → OnOk r (new ≡ mid ++ second) →
    OnOk r (new ≡ old ++ (first ++ second))
two (Ok x) old mid new first second one then = then ∙ ap (λ t. t ++ second) one ∙ append_assoc old first second
two (Err e) old mid new first second one then = tt

pub three : {T E : Type 0} (r : Result T E) (old mid end new first second third : List ℕ) → mid ≡ old ++ first → end ≡ mid ++ second →
    OnOk r (new ≡ end ++ third) →
    OnOk r (new ≡ old ++ (first ++ second ++ third))
three (Ok x) old mid end new first second third one then last = rw (last, then, one) (simp append_assoc)
three (Err e) old mid end new first second third one then last = tt

pub all-append : {X : Type 0} (P : X → Type 0) (xs ys : List X) → AllByRecursion P xs → AllByRecursion P ys → AllByRecursion P (xs ++ ys)
all-append P [] ys a b = b
all-append P (x ∷ xs) ys a b = (a.0, all-append P xs ys a.1 b)
