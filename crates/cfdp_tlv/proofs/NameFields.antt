-- The names of a request or a response, read and spelled.
use Rattle.std.proofs.Common.{◌≡◌, ℕ, List, [], ◌++◌, Bool, true, false, Option, Some, None, Ok, refl, sym, ap, subst, ◌∙◌, append_assoc}
use Rattle.std.specs.Prelude.{is_some}
use Rattle.std.proofs.lemmas.List.{append-nil}
use Rattle.cfdp_tlv.specs.Field.{lv, lv_at}
use Rattle.cfdp_tlv.specs.Grammar.{names_as_lv, second_at}
use Rattle.cfdp_tlv.proofs.Steps.{bind_ok, ok_is}
use Rattle.cfdp_tlv.proofs.Fields.{lv_takes, lv_again}

-- a first name and, where it is wanted, a second one are at the front
pub record TakesNames (wanted : Bool) (octets first : List ℕ) (second : Option (List ℕ)) (rest : List ℕ) : Type 0 where
  pub complete : is_some second ≡ wanted
  pub parts : octets ≡ names_as_lv first second ++ rest

pub names_take : (wanted : Bool) (octets first after : List ℕ) (second : Option (List ℕ)) (rest : List ℕ) → lv_at octets ≡ Ok (first, after) →
    second_at wanted after ≡ Ok (second, rest) → TakesNames wanted octets first second rest
unfolding second_at
names_take false octets first after second rest one two =
    let made : Option (List ℕ) × List ℕ = (None, after) in
    subst (λ (p : Option (List ℕ) × List ℕ). TakesNames false octets first p.0 p.1) (ok_is made (second, rest) two)
    record { complete = refl; parts = lv_takes octets first after one }
names_take true octets first after second rest one two =
    let a = bind_ok (lv_at after) (λ field. Ok (Some field.0, field.1)) (second, rest) two in
    let made : Option (List ℕ) × List ℕ = (Some a.0.0, a.0.1) in
    let parts : octets ≡ lv first ++ (lv a.0.0 ++ a.0.1) = lv_takes octets first after one
    ∙ ap (λ (t : List ℕ). lv first ++ t) (lv_takes after a.0.0 a.0.1 a.1) in
    subst (λ (p : Option (List ℕ) × List ℕ). TakesNames true octets first p.0 p.1) (ok_is made (second, rest) a.2)
    record { complete = refl; parts = parts ∙ sym (append_assoc (lv first) (lv a.0.0) a.0.1) }

-- what is after the first name
abbrev pub after_first : Option (List ℕ) → List ℕ → List ℕ
after_first None rest = rest
after_first (Some second) rest = lv second ++ rest

pub first_again : (first : List ℕ) (second : Option (List ℕ)) (rest : List ℕ) → lv_at (names_as_lv first second ++ rest) ≡ Ok (first, after_first second rest)
first_again first None rest = lv_again first rest
first_again first (Some second) rest = ap lv_at (append_assoc (lv first) (lv second) rest) ∙ lv_again first (lv second ++ rest)

pub second_again : (second : Option (List ℕ)) (rest : List ℕ) → second_at (is_some second) (after_first second rest) ≡ Ok (second, rest)
unfolding second_at
second_again None rest = refl
second_again (Some second) rest = rw (lv_again second rest) refl

-- nothing is left
pub ended : (octets front rest : List ℕ) → octets ≡ front ++ rest → rest ≡ [] → octets ≡ front
ended octets front rest parts none = parts ∙ ap (λ (t : List ℕ). front ++ t) none ∙ append-nil front
