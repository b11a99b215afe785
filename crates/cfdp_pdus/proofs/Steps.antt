-- What is known of a reading that failed, and of one that gave a value.
use Rattle.std.proofs.Common.{◌≡◌, Bool, true, false, cond, Result, Ok, Err, refl, ap, inl, inr}
use Rattle.std.specs.Prelude.{IsOk}
use Rattle.cfdp_tlv.specs.declared.fault.TlvFault.{TlvFault}
use Rattle.cfdp_pdus.specs.declared.fault.PduFault.{PduFault}
use Rattle.cfdp_tlv.specs.Reading.{◌>>=◌, Fails}
use Rattle.cfdp_pdus.specs.Reading.{mend}

-- a first step that gave no value, gives the whole none
pub first_is_ok : {A B F : Type 0} (read : Result A F) (next : A → Result B F) → IsOk (read >>= next) → IsOk read
first_is_ok (Ok x) next good = refl
first_is_ok (Err fault) next good = absurd cc

pub never_both : {A F : Type 0} (read : Result A F) (fault : F) → read ≡ Err fault → IsOk read → ⊥
never_both (Ok x) fault e good = cc
never_both (Err other) fault e good = cc

pub not_refused : {A B F G : Type 0} (part : Result A F) (whole : Result B G) (cause : F → G) → ((fault : F) → part ≡ Err fault → whole ≡ Err (cause fault)) →
    IsOk whole → IsOk part
not_refused (Ok x) whole cause refused good = refl
not_refused (Err fault) whole cause refused good = absurd (never_both whole (cause fault) (refused fault refl) good)

-- a last step that cannot fail
last_is_ok : {A B F : Type 0} (read : Result A F) (last : A → B) → IsOk read → IsOk (read >>= λ x. Ok (last x))
last_is_ok (Ok x) last good = refl
last_is_ok (Err fault) last good = absurd cc

pub last_fails : {A B F : Type 0} (memory fault : F) (read : Result A F) (last : A → B) → Fails memory fault read →
    Fails memory fault (read >>= λ x. Ok (last x))
last_fails memory fault read last (inl same) = inl (ap (λ r. r >>= λ x. Ok (last x)) same)
last_fails memory fault read last (inr ran_out) = inr (ran_out.0, last_is_ok read last ran_out.1)

-- a test that held
pub held_ok : {A : Type 0} (b : Bool) (fault : PduFault) (x y : A) → cond b (Ok x) (Err fault) ≡ Ok y → (b ≡ true) × (x ≡ y)
held_ok true fault x y e = (refl, cc)
held_ok false fault x y e = absurd cc

-- the same before a further step
pub guard_then : {A : Type 0} (b : Bool) (fault : PduFault) (read : Result A PduFault) (y : A) → cond b (Err fault) read ≡ Ok y → (b ≡ false) × (read ≡ Ok y)
guard_then true fault read y e = absurd cc
guard_then false fault read y e = (refl, e)

pub held_then : {A : Type 0} (b : Bool) (fault : PduFault) (read : Result A PduFault) (y : A) → cond b read (Err fault) ≡ Ok y → (b ≡ true) × (read ≡ Ok y)
held_then true fault read y e = (refl, e)
held_then false fault read y e = absurd cc

pub mend_ok : {A : Type 0} (fault : PduFault) (read : Result A TlvFault) (y : A) → mend fault read ≡ Ok y → read ≡ Ok y
mend_ok fault (Ok x) y e = cc
mend_ok fault (Err other) y e = absurd cc
