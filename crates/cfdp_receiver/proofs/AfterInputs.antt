-- The state after two lists of inputs is that after the one, and then after the other.
use Rattle.std.proofs.Common.{◌≡◌, refl, List, [], ◌∷◌, ◌++◌}
use Rattle.cfdp_receiver.specs.State.{State, Input}
use Rattle.cfdp_receiver.specs.Turning.{after_input, after_all}

pub after_both : (R : State) (xs ys : List Input) → after_all R (xs ++ ys) ≡ after_all (after_all R xs) ys
after_both R [] ys = refl
after_both R (x ∷ xs) ys = after_both (after_input R x) xs ys
