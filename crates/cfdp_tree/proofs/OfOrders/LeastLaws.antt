-- Comparisons.
--     flipped                   an order the other way round
--     less_greater, equal_greater   two orders are not one
--     none_then                 what follows from a clause of `None`
use Rattle.std.proofs.Common.{◌≡◌, Option, Some, None, ap, ◌∙◌}
use Rattle.std.specs.Cmp.{IsTotalOrder}
use Rattle.std.specs.Ordering.{ordering_reverse}
use Rattle.std.specs.Prelude.{IfNone}
use Rattle.std.specs.declared.cmp.Ordering.{Ordering}
use Rattle.std.specs.declared.cmp.Ordering.TheVariants.{Less, Equal, Greater}

pub flipped : {K : Type 0} {R : K → K → Ordering} → IsTotalOrder R → (x y : K) → R x y ≡ Greater → R y x ≡ Less
flipped total x y e = total.antisymm y x ∙ ap ordering_reverse e

pub less_greater : {o : Ordering} → o ≡ Less → o ≡ Greater → ⊥
less_greater e f = cc

pub equal_greater : {o : Ordering} → o ≡ Equal → o ≡ Greater → ⊥
equal_greater e f = cc

pub none_then : {A : Type 0} (r : Option A) {P Q : Type 0} → IfNone r P → (P → Q) → IfNone r Q
none_then None p then = then p
none_then (Some x) p then = tt
