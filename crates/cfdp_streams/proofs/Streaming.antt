-- One change of a stream's octets after another.
use Rattle.std.proofs.Common.{◌≡◌, ℕ, List, ◌++◌, Option, Some, None, refl, sym, ap, ◌∙◌, append_assoc}
use Rattle.std.proofs.KnownBytes.{Appends-trans}
use Rattle.std.specs.Io.KnownBytes.{Appends}
use Rattle.cfdp_streams.specs.Streams.{KeptOrLost, AppendsOrLost}

pub Appends-more_or_lost : (a b c : Option (List ℕ)) (x y : List ℕ) → Appends a b x → AppendsOrLost b c y → AppendsOrLost a c (x ++ y)
Appends-more_or_lost None b c x y p q = tt
Appends-more_or_lost (Some a) None c x y p q = absurd p
Appends-more_or_lost (Some a) (Some b) None x y p q = tt
Appends-more_or_lost (Some a) (Some b) (Some c) x y p q = q ∙ ap (λ (s : List ℕ). s ++ y) p ∙ append_assoc a x y

-- a loop that writes a text: what is written, and what is left of it
pub record Writing (text rest : List ℕ) (old new : Option (List ℕ)) : Type 0 where
  pub written : List ℕ
  pub whole : text ≡ written ++ rest
  pub appended : Appends old new written

pub Writing-more : (text rest front back : List ℕ) (a b c : Option (List ℕ)) → Writing text rest a b → rest ≡ front ++ back
    → Appends b c front → Writing text back a c
Writing-more text rest front back a b c w e p = record {
  written = w.written ++ front;
  whole = w.whole ∙ ap (λ (s : List ℕ). w.written ++ s) e ∙ sym (append_assoc w.written front back);
  appended = Appends-trans a b c w.written front w.appended p;
}

pub KeptOrLost-same : (a : Option (List ℕ)) → KeptOrLost a a
KeptOrLost-same None = tt
KeptOrLost-same (Some a) = refl
