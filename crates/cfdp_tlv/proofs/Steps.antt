-- What is known of a reading that gave a value.
use Rattle.std.proofs.Common.{◌≡◌, ℕ, List, [], ◌∷◌, Bool, true, false, cond, Option, Some, None, Result, Ok, Err, refl, sym, ap, ◌∙◌}
use Rattle.cfdp_tlv.specs.declared.fault.TlvFault.{TlvFault}
use Rattle.std.specs.Prelude.{◌⊎◌}
use Rattle.std.proofs.Common.{inl, inr}
use Rattle.cfdp_tlv.specs.Reading.{◌>>=◌, Gives}
use Rattle.cfdp_tlv.specs.Grammar.{all_read, known}

-- both steps gave a value
pub bind_ok : {A B F : Type 0} (read : Result A F) (next : A → Result B F) (y : B) → (read >>= next) ≡ Ok y → (x : A) × (read ≡ Ok x) × (next x ≡ Ok y)
bind_ok (Ok x) next y e = (x, refl, e)
bind_ok (Err fault) next y e = absurd cc

-- a test that did not fail
pub guard_ok : {A F : Type 0} (b : Bool) (fault : F) (x y : A) → cond b (Err fault) (Ok x) ≡ Ok y → (b ≡ false) × (x ≡ y)
guard_ok true fault x y e = absurd cc
guard_ok false fault x y e = (refl, cc)

abbrev done : {A F : Type 0} → A → Result A F
done x = Ok x

pub ok_is : {A F : Type 0} (x y : A) → done {F = F} x ≡ done y → x ≡ y
ok_is x y e = cc

pub whole_ok : {A : Type 0} (value : A) (octets : List ℕ) (y : A) → all_read value octets ≡ Ok y → (octets ≡ []) × (value ≡ y)
whole_ok value [] y e = (refl, cc)
whole_ok value (octet ∷ octets) y e = absurd cc

pub known_ok : {A : Type 0} (o : Option A) (fault : TlvFault) (y : A) → known o fault ≡ Ok y → o ≡ Some y
known_ok None fault y e = absurd cc
known_ok (Some x) fault y e = cc

-- where reading gives a value, the answer is that value, or memory ran out
pub only_ok : {A F : Type 0} (memory : F) (result read : Result A F) (y : A) → Gives memory (λ (x : A). x) result read → read ≡ Ok y → (result ≡ Ok y)
    ⊎ (result ≡ Err memory)
only_ok memory (Ok x) read y given e = inl (sym given ∙ e)
only_ok memory (Err fault) read y (inl same) e = absurd cc
only_ok memory (Err fault) read y (inr ran_out) e = inr (ap Err ran_out.0)
