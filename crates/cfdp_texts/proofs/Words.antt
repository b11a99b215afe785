-- A text that grows.
use Rattle.std.proofs.Common.{◌≡◌, ℕ, List, [], ◌∷◌, ◌++◌, append_assoc}
use Rattle.std.specs.Prelude.{Result, Ok, Err, OnOk}
use Rattle.cfdp_texts.specs.Replies.{word}

-- a text, and then a word
pub then_word : {T E : Type 0} (r : Result T E) (old first second mid end new : List ℕ) → mid ≡ old ++ first → end ≡ mid ++ 32 ∷ []
    → OnOk r (new ≡ end ++ second) → OnOk r (new ≡ old ++ (first ++ word second))
then_word (Ok x) old first second mid end new one two three = rw (three, two, one) (simp append_assoc)
then_word (Err e) old first second mid end new one two three = tt
