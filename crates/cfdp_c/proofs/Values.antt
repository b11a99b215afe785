-- The machine value of a slot: its pointer alone. Assumes `Logic`.
use Rattle.std.proofs.Common.{◌≡◌, List, [], ◌∷◌, ◌++◌, refl, ◌∙◌, subst, lit<}
use Rattle.std.specs.Prelude.{Option, Some, None, IsSome, Bool, not, T}
use seplogic.Ra.Ura.{Ura}
use mir.Syntax.{ty_ptr, ty_struct, tcons, tnil}
use mir.Val.{Val, vstruct, vcons, vnil, of_list}
use base.Logic.{ent, emp}
use base.Fml.{Fml}
use types.Logic.{Logic, sem}
use denote.RawPtr.{Ptr, RawPtr, block_ptr, null_ptr, ptr_val}
use denote.Shadow.{shadow, makes_shadow}
use denote.Struct.Struct.{Struct}
use Rattle.core.proofs.cell.Inside.{Good}

abbrev pub slot_val : Ptr → Val
slot_val p = vstruct (vcons (ptr_val p) vnil)

-- what the field owns
abbrev pub field_own : Ptr → List Val → Fml
field_own p = (Struct (record { name = []; args = []; types = []; fields = RawPtr ∷ [] })).own_val (p, tt)

pub slot_fields : (p : Ptr) (vs : List Val) → shadow (field_own p vs) → vs ≡ slot_val p ∷ []
slot_fields p vs s = s.1.0 ∙ (λ i. vstruct (of_list (s.1.1.0 i ++ [])) ∷ [])

pub slot_made : {M : Type 1} {𝓤 : Ura M} (𝓛 : Logic 𝓤) (p : Ptr) → ent 𝓤 (emp 𝓤) (sem 𝓛 (field_own p (slot_val p ∷ [])))
slot_made 𝓛 p = makes_shadow 𝓛 (field_own p (slot_val p ∷ [])) (λ _. (tt, (tt, tt))) ((ptr_val p ∷ [], tt), (refl, (refl, tt)))

pub slot_typed : (p : Ptr) → Good (ty_struct [] (tcons ty_ptr tnil)) (slot_val p)
slot_typed (block_ptr b o) = (tt, (tt, tt))
slot_typed null_ptr = (tt, (record { fits = lit< tt }, tt))

-- what a slot has that is not empty
pub content_of : {X : Type 0} (e : Option X) → IsSome e → X
content_of (Some t) s = t
content_of None s = absurd (subst (λ (b : Bool). T (not b)) s tt)

pub content_is : {X : Type 0} (e : Option X) (s : IsSome e) → e ≡ Some (content_of e s)
unfolding content_of
content_is (Some t) s = refl
content_is None s = absurd (subst (λ (b : Bool). T (not b)) s tt)
