-- A loop over the words of a line of hexadecimal: which are still to come.
use Rattle.std.proofs.Common.{◌+◌, ◌/◌, ◌<◌, ◌≤◌, ◌==◌, true, false, length, get_or, arith, ◌≡◌, refl, sym, ◌∙◌, ap, ℕ, List, [], ◌∷◌, ◌++◌, Option, Some, None, Result, Ok, Err, Bor, append_assoc, length-append}
use Rattle.std.specs.Prelude.{IsOk, IsErr, OnOk}
use Rattle.std.proofs.lemmas.Bool.{false≢true, false_from_ne_true}
use Rattle.std.proofs.lemmas.Iterator.{YieldsList}
use Rattle.std.proofs.lemmas.List.{append-nil, nil_from_length}
use Rattle.std.proofs.lemmas.List.Elements.{All-from_get_or}
use Rattle.std.proofs.lemmas.List.Splits.{slice_split_none}
use Rattle.hex.specs.Hex.{decode_of, decode_pairs}
use Rattle.hex.proofs.HexLemmas.{decode_of-ok}
use Rattle.hex.specs.declared.error.FromHexError.{FromHexError}
use Rattle.cfdp_lines.specs.Hexadecimal.{octets_before, octets_of_words, hex_octets}
use Rattle.cfdp_lines.specs.code.Hexadecimal.{octets_or_none}
use Rattle.std.specs.List.{slice_split}
use Rattle.cfdp_lines.specs.Hexadecimal.{is_space}

-- the octets so far, and what the words still to come spell, are what the line spells
pub record ToDecode {S : Type 0} (steps : S → Option (Bor (List ℕ)) → S → Type 0) (s : S) (line octets : List ℕ) : Type 0 where
  pub words : List (List ℕ)
  pub left : YieldsList steps (λ y. y.now) s words
  pub same : octets_before (Ok octets) (octets_of_words words) ≡ hex_octets line

-- octets before others, one after another
octets_before-before : (a b : List ℕ) (more : Option (List ℕ))
    → octets_before (Ok a) (octets_before (Ok b) more) ≡ octets_before (Ok (a ++ b)) more
octets_before-before a b None = refl
octets_before-before a b (Some more) = ap Some (sym (append_assoc a b more))

pub octets_before-nothing : (more : Option (List ℕ)) → octets_before (Ok []) more ≡ more
octets_before-nothing None = refl
octets_before-nothing (Some more) = refl

pub ok_octets : (r : Result (List ℕ) FromHexError) → IsOk r → r ≡ Ok (octets_or_none r)
ok_octets (Ok octets) e = refl
ok_octets (Err fault) e = absurd (false≢true e)

pub err_octets : (r : Result (List ℕ) FromHexError) → (IsOk r → ⊥) → IsErr r
err_octets (Ok octets) h = absurd (h refl)
err_octets (Err fault) h = refl

-- an empty word spells nothing
pub decode_of-nothing : decode_of [] ≡ Ok []
unfolding decode_pairs
decode_of-nothing = refl

pub decode_of-empty : (word : List ℕ) → length word ≡ 0 → decode_of word ≡ Ok []
decode_of-empty word e = ap decode_of (nil_from_length word e) ∙ decode_of-nothing

before_nothing : (octets : List ℕ) (more : Option (List ℕ)) → octets_before (Ok octets) more ≡ Some [] → more ≡ Some []
before_nothing octets None e = cc
before_nothing [] (Some more) e = e
before_nothing (octet ∷ octets) (Some more) e = absurd cc

-- a word that is not empty spells an octet, if it spells any
some_octet : (word : List ℕ) (r : Result (List ℕ) FromHexError) (more : Option (List ℕ)) → decode_of word ≡ r → 0 < length word
    → octets_before r more ≡ Some [] → ⊥
some_octet word (Ok []) (Some more) is few e =
    let long = (decode_of-ok word [] is).2 in absurd (omega (arith, long))
some_octet word (Ok (octet ∷ octets)) (Some more) is few e = absurd cc
some_octet word (Ok octets) None is few e = absurd cc
some_octet word (Err fault) more is few e = absurd cc

longer : (so_far octets word : List ℕ) (r : Result (List ℕ) FromHexError) (more : Option (List ℕ)) → decode_of word ≡ r
    → octets_before (Ok so_far) (octets_before r more) ≡ Some octets → length so_far + length word / 2 ≤ length octets
longer so_far octets word (Ok decoded) (Some more) is e =
    let long = (decode_of-ok word decoded is).2 in
    let same : so_far ++ (decoded ++ more) ≡ octets = cc in
    omega (arith, long, ap length (sym same), length-append so_far (decoded ++ more), length-append decoded more)
longer so_far octets word (Ok decoded) None is e = absurd cc
longer so_far octets word (Err fault) more is e = absurd cc

octets_before-bad : (r : Result (List ℕ) FromHexError) (more : Option (List ℕ)) → IsErr r → octets_before r more ≡ None
octets_before-bad (Ok octets) more e = absurd (false≢true e)
octets_before-bad (Err fault) more e = refl

module _ {S : Type 0} {steps : S → Option (Bor (List ℕ)) → S → Type 0} where
  yields_next : (s t : S) (x : Bor (List ℕ)) (words : List (List ℕ)) → YieldsList steps (λ y. y.now) s words → steps s (Some x) t
      → (rest : List (List ℕ)) × (words ≡ x.now ∷ rest) × YieldsList steps (λ y. y.now) t rest
  yields_next s t x [] h step = absurd (h.runs x t step)
  yields_next s t x (word ∷ words) h step =
      let next = h.runs.1 x t step in
      (words, ap (λ n. n ∷ words) (sym next.0), record { runs = next.1 })

  yields_end : (s t : S) (words : List (List ℕ)) → YieldsList steps (λ y. y.now) s words → steps s None t → words ≡ []
  yields_end s t [] h step = refl
  yields_end s t (word ∷ words) h step = absurd (h.runs.0 t step)

  pub decode_start : (s : S) (line : List ℕ) → YieldsList steps (λ y. y.now) s (slice_split is_space line) → ToDecode steps s line []
  decode_start s line h = record {
    words = slice_split is_space line;
    left = h;
    same = octets_before-nothing (octets_of_words (slice_split is_space line));
  }

  pub decode_on : (s t : S) (x : Bor (List ℕ)) (line octets decoded : List ℕ) → ToDecode steps s line octets → steps s (Some x) t
      → decode_of x.now ≡ Ok decoded → ToDecode steps t line (octets ++ decoded)
  decode_on s t x line octets decoded h step e =
      let next = yields_next s t x h.words h.left step in
      record {
        words = next.0;
        left = next.2;
        same =
            sym (octets_before-before octets decoded (octets_of_words next.0))
            ∙ ap (λ r. octets_before (Ok octets) (octets_before r (octets_of_words next.0))) (sym e)
            ∙ ap (λ words. octets_before (Ok octets) (octets_of_words words)) (sym next.1)
            ∙ h.same;
      }

  pub decode_some : (s t : S) (x : Bor (List ℕ)) (line octets : List ℕ) → ToDecode steps s line octets → steps s (Some x) t
      → 0 < length x.now → hex_octets line ≡ Some [] → ⊥
  decode_some s t x line octets h step few e =
      let next = yields_next s t x h.words h.left step in
      some_octet x.now (decode_of x.now) (octets_of_words next.0) refl few
      (before_nothing octets (octets_before (decode_of x.now) (octets_of_words next.0))
      (ap (λ words. octets_before (Ok octets) (octets_of_words words)) (sym next.1) ∙ h.same ∙ e))

  -- what a line spells is as long as what was decoded, and the next word's octets
  pub decode_longer : (s t : S) (x : Bor (List ℕ)) (line so_far octets : List ℕ) → ToDecode steps s line so_far → steps s (Some x) t
      → hex_octets line ≡ Some octets → length so_far + length x.now / 2 ≤ length octets
  decode_longer s t x line so_far octets h step e =
      let next = yields_next s t x h.words h.left step in
      longer so_far octets x.now (decode_of x.now) (octets_of_words next.0) refl
      (ap (λ words. octets_before (Ok so_far) (octets_of_words words)) (sym next.1) ∙ h.same ∙ e)

  pub decode_bad : (s t : S) (x : Bor (List ℕ)) (line octets : List ℕ) → ToDecode steps s line octets → steps s (Some x) t
      → IsErr (decode_of x.now) → hex_octets line ≡ None
  decode_bad s t x line octets h step e =
      let next = yields_next s t x h.words h.left step in
      sym h.same
      ∙ ap (λ words. octets_before (Ok octets) (octets_of_words words)) next.1
      ∙ ap (octets_before (Ok octets)) (octets_before-bad (decode_of x.now) (octets_of_words next.0) e)

  pub decode_end : (s t : S) (line octets : List ℕ) → ToDecode steps s line octets → steps s None t → hex_octets line ≡ Some octets
  decode_end s t line octets h step =
      sym h.same
      ∙ ap (λ words. octets_before (Ok octets) (octets_of_words words)) (yields_end s t h.words h.left step)
      ∙ ap Some (append-nil octets)

-- a line without a space is one word
module _ (line : List ℕ) (none : (k : ℕ) → 0 ≤ k → k < length line → (get_or line k 0 == 32) ≡ true → ⊥) where
  one_word : hex_octets line ≡ octets_before (decode_of line) (Some [])
  one_word =
      ap octets_of_words (slice_split_none is_space line
      (All-from_get_or (λ (x : ℕ). is_space x ≡ false) line 0 (λ i lt. false_from_ne_true (get_or line i 0 == 32) (none i (omega arith) lt))))

  one_word-good : IsOk (decode_of line) → hex_octets line ≡ Some (octets_or_none (decode_of line))
  one_word-good good =
      one_word
      ∙ ap (λ r. octets_before r (Some [])) (ok_octets (decode_of line) good)
      ∙ ap Some (append-nil (octets_or_none (decode_of line)))

  pub one_word-decoded : {E : Type 0} (r : Result (Unit {0}) E) (octets : List ℕ) → OnOk r (octets ≡ octets_or_none (decode_of line))
      → OnOk r (IsOk (decode_of line)) → OnOk r (hex_octets line ≡ Some octets)
  one_word-decoded (Ok done) octets same good = one_word-good good ∙ ap Some (sym same)
  one_word-decoded (Err fault) octets same good = same

  pub one_word-some : 0 < length line → hex_octets line ≡ Some [] → ⊥
  one_word-some few e = some_octet line (decode_of line) (Some []) refl few (sym one_word ∙ e)

  pub one_word-bad : IsErr (decode_of line) → hex_octets line ≡ None
  one_word-bad bad = one_word ∙ octets_before-bad (decode_of line) (Some []) bad
