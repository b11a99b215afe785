-- Two truths, of which one gives the other.
--     by_truth     they are one, where each gives the other
--     absorbed     one that gives the other adds nothing to it
use Rattle.std.proofs.Common.{◌≡◌, refl, sym, Bool, true, false, ◌||◌}

pub by_truth : (a b : Bool) → (a ≡ true → b ≡ true) → (b ≡ true → a ≡ true) → a ≡ b
by_truth true true f g = refl
by_truth true false f g = sym (f refl)
by_truth false true f g = g refl
by_truth false false f g = refl

pub absorbed : (a b : Bool) → (b ≡ true → a ≡ true) → a ≡ (a || b)
absorbed true b h = refl
absorbed false true h = h refl
absorbed false false h = refl
