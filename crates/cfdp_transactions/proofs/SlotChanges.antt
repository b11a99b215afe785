-- Changes and slots: which slots a change leaves alone.
use Rattle.std.proofs.Common.{◌≡◌, ◌≢◌, ℕ, List, [], ◌∷◌, length, refl, ◌∙◌, get_or-set_other, length-set}
use Rattle.std.specs.Prelude.{⊤}
use Rattle.std.specs.List.{AllByRecursion}
use Rattle.cfdp_actions.specs.Filestore.{Filestore, staged_in, Change, Becomes, Stages, changed, after}

-- a change of a path, or of this slot
abbrev pub IsInSlot : ℕ → Change → Type 0
IsInSlot slot (Becomes p what) = ⊤
IsInSlot slot (Stages other octets) = other ≡ slot

pub after-slots : (F : Filestore) (changes : List Change) → length (after F changes).staged ≡ length F.staged
after-slots F [] = refl
after-slots F (Becomes p what ∷ cs) = after-slots (changed F (Becomes p what)) cs
after-slots F (Stages slot octets ∷ cs) = after-slots (changed F (Stages slot octets)) cs ∙ length-set F.staged slot octets

pub after-elsewhere : (F : Filestore) (slot other : ℕ) (changes : List Change) → AllByRecursion (IsInSlot slot) changes → other ≢ slot →
    staged_in (after F changes) other ≡ staged_in F other
after-elsewhere F slot other [] own ne = refl
after-elsewhere F slot other (Becomes p what ∷ cs) own ne = after-elsewhere (changed F (Becomes p what)) slot other cs own.1 ne
after-elsewhere F slot other (Stages at octets ∷ cs) own ne =
    after-elsewhere (changed F (Stages at octets)) slot other cs own.1 ne ∙ get_or-set_other F.staged at other octets [] (λ e. ne (e ∙ own.0))

-- blocks, by what is staged ------------------------------------------------------
