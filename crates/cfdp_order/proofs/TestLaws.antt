-- What the tests of a search say.
--     some_levels                an order that is not empty has levels
--     not_less, not_greater      two of the three results of a comparison
use Rattle.std.proofs.Common.{◌≡◌, ℕ, ◌<◌, ◌⊎◌, inl, inr, false, arith}
use Rattle.std.specs.Prelude.{IsTrue}
use Rattle.std.proofs.lemmas.Bool.{cases_eq}
use Rattle.std.specs.declared.cmp.Ordering.{Ordering}
use Rattle.std.specs.declared.cmp.Ordering.TheVariants.{Less, Equal, Greater}

pub some_levels : {height : ℕ} → (height ≡ 0 → IsTrue false) → 0 < height
some_levels {height} some = elim (cases_eq height 0) [
  | inl e ↦ absurd (let wrong = some e in cc)
  | inr other ↦ omega (arith, other)
]

pub not_less : {o : Ordering} → (o ≡ Equal) ⊎ (o ≡ Greater) → o ≡ Less → ⊥
not_less (inl e) less = cc
not_less (inr e) less = cc

pub not_greater : {o : Ordering} → (o ≡ Less) ⊎ (o ≡ Equal) → o ≡ Greater → ⊥
not_greater (inl e) more = cc
not_greater (inr e) more = cc
