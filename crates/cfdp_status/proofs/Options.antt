-- Optional values.
--     or_none           a value, or else none: the value
--     neither           no value of two: neither is one
--     none_where_some   none where it is a value: none in any case
use Rattle.std.proofs.Common.{◌≡◌, Option, Some, None, cond, is_some, refl}
use Rattle.std.specs.Option.{option_or}

pub or_none : {A : Type 0} (o : Option A) → option_or o None ≡ o
or_none None = refl
or_none (Some x) = refl

pub neither : {A : Type 0} (o p : Option A) → option_or o p ≡ None → (o ≡ None) × (p ≡ None)
neither None p e = (refl, e)
neither (Some x) p e = absurd cc

pub none_where_some : {A : Type 0} (o : Option A) → cond (is_some o) None o ≡ None
none_where_some None = refl
none_where_some (Some x) = refl
