-- Which numbers are too few, or too many.
use Rattle.std.proofs.Common.{◌≡◌, ◌⊎◌, inl, inr, ℕ, ◌<◌, ◌≤◌, List, [], ◌∷◌, length, Option, Some, None, refl, arith}
use Rattle.cfdp_lines.specs.Words.{id_by, numbers_of}
use Rattle.cfdp_lines.proofs.Wording.{numbers_of-length}

-- no numbers, or more than five
abbrev pub NotFew : Option (List ℕ) → Type 0
NotFew numbers = (numbers ≡ None) ⊎ ((some : List ℕ) → numbers ≡ Some some → 5 < length some)

pub not_few : (words : List (List ℕ)) → (numbers_of words ≡ None) ⊎ (5 < length words) → NotFew (numbers_of words)
not_few words (inl none) = inl none
not_few words (inr many) = inr (λ some e. omega (arith, numbers_of-length words some e, many))

pub too_few : {X : Type 0} (some : List ℕ) → length some ≤ 5 → NotFew (Some some) → X
too_few some le (inl e) = cc e
too_few some le (inr h) = absurd (omega (arith, h some refl))

pub id_by-none : (numbers : Option (List ℕ)) → NotFew numbers → id_by numbers ≡ None
id_by-none None h = refl
id_by-none (Some []) h = refl
id_by-none (Some (source ∷ [])) h = refl
id_by-none (Some (source ∷ number ∷ [])) h = too_few (source ∷ number ∷ []) (omega arith) h
id_by-none (Some (source ∷ number ∷ more ∷ numbers)) h = refl
