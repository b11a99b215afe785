-- What a test says of an optional value.
--     none_of       what is not some value is none
--     unless_some   what is some value unless a test holds is that value
--     chosen_some   a choice between a value and a later one: which of them it is
--     passed_over   a choice that gives neither
use Rattle.std.proofs.Common.{◌≡◌, ◌⊎◌, inl, inr, Bool, true, false, Option, Some, None, refl}
use Rattle.std.specs.Prelude.{is_some, if◌then◌else◌}
use Rattle.std.proofs.lemmas.Bool.{true≢false}
use Rattle.std.proofs.lemmas.Option.{none-some, same_Some}

pub none_of : {A : Type 0} (o : Option A) → is_some o ≡ false → o ≡ None
none_of None h = refl
none_of (Some x) h = absurd (true≢false h)

pub unless_some : {A : Type 0} (b : Bool) (x y : A) → (if b then None else Some x) ≡ Some y → x ≡ y
unless_some true x y h = absurd (none-some y h)
unless_some false x y h = same_Some x y h

pub chosen_some : {A : Type 0} (b : Bool) (x y : A) (later : Option A) → (if b then Some x else later) ≡ Some y →
    ((b ≡ true) × (x ≡ y)) ⊎ ((b ≡ false) × (later ≡ Some y))
chosen_some true x y later h = inl (refl, same_Some x y h)
chosen_some false x y later h = inr (refl, h)

pub passed_over : {A : Type 0} (b : Bool) (x : A) (later : Option A) → (if b then Some x else later) ≡ None → (b ≡ false) × (later ≡ None)
passed_over true x later h = absurd cc
passed_over false x later h = (refl, h)
