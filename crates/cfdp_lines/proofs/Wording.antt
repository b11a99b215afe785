-- The words of a line, and the numbers that they write.
use Rattle.std.proofs.Common.{◌≡◌, ◌≢◌, ℕ, zero, ◌<◌, ◌≤◌, ◌^◌, ◌==◌, ◌&&◌, Bool, true, false, nat_lt, List, [], ◌∷◌, ◌++◌, length, get_or, take, drop, All, Option, Some, None, Result, Ok, Err, suc, refl, sym, ap, ◌∙◌, arith, rules, length-take, get_or-take, drop-cons, eqb-true, ltb-true, lt-ltb, OkIff, cond, IsUtf8}
use Rattle.std.proofs.lemmas.List.{take-append-drop}
use Rattle.std.proofs.lemmas.List.Elements.{All-from_get_or}
use Rattle.std.specs.Char.{is_ascii_digit}
use Rattle.std.specs.List.{slice_split, filter, list_all}
use Rattle.std.specs.Str.{all_ascii_digits}
use Rattle.std.specs.Str.Parse.{digits_value, ParsesUnsigned}
use Rattle.std.proofs.lemmas.Fmt.{IsAscii-from_digits}
use Rattle.std.proofs.lemmas.Str.{IsUtf8-from_ascii}
use Rattle.std.proofs.lemmas.Str.Parse.{numerals_by_value, parse_digits, tells_all_ascii_digits}
use Rattle.std.proofs.lemmas.List.Splits.{slice_split_at, slice_split_none, slice_split-cons_yes}
use Rattle.cfdp_lines.specs.Words.{is_word, is_numeral, number_before, number_of, numbers_of, words_of}
use Rattle.cfdp_lines.specs.Hexadecimal.{is_space, hex_octets, octets_of_words, octets_before}
use Rattle.cfdp_lines.proofs.Decoding.{octets_before-nothing, decode_of-nothing}
use Rattle.hex.specs.Hex.{decode_of}
use Rattle.std.proofs.lemmas.Bool.{false_from_ne_true, and_parts}

-- ---- words

pub words_of-space : (octets : List ℕ) → words_of (32 ∷ octets) ≡ words_of octets
words_of-space octets = ap (filter is_word) (slice_split-cons_yes is_space 32 octets refl)

words_of-parts : (word : List ℕ) (parts : List (List ℕ)) → 0 < length word → filter is_word (word ∷ parts) ≡ word ∷ filter is_word parts
words_of-parts [] parts n = absurd (omega arith)
words_of-parts (octet ∷ word) parts n = let some : is_word (octet ∷ word) ≡ true = search rules in rw some refl

pub words_of-last : (word : List ℕ) → All (λ octet. is_space octet ≡ false) word → 0 < length word → words_of word ≡ word ∷ []
words_of-last word h n = ap (filter is_word) (slice_split_none is_space word h) ∙ words_of-parts word [] n

pub words_of-first : (word following : List ℕ) → All (λ octet. is_space octet ≡ false) word → 0 < length word
    → words_of (word ++ 32 ∷ following) ≡ word ∷ words_of (32 ∷ following)
words_of-first word following h n =
    ap (filter is_word) (slice_split_at is_space word 32 following h refl)
    ∙ words_of-parts word (slice_split is_space following) n
    ∙ ap (λ words. word ∷ words) (sym (words_of-space following))

-- up to the first space, if there is one
pub words_of-at : (line : List ℕ) (at : ℕ) → get_or line 0 0 ≢ 32 → at < length line
    → ((k : ℕ) → 0 ≤ k → k < at → (get_or line k 0 == 32) ≡ true → ⊥) → (get_or line at 0 == 32) ≡ true
    → words_of line ≡ take at line ∷ words_of (drop at line)
words_of-at line zero first lt none is = absurd (first (eqb-true (get_or line 0 0) 32 is))
words_of-at line (suc before) first lt none is =
    let at : ℕ = suc before in
    let space : drop at line ≡ 32 ∷ drop (suc at) line = drop-cons line at 0 lt ∙ ap (λ x. x ∷ drop (suc at) line) (eqb-true (get_or line at 0) 32 is) in
    let word : All (λ octet. is_space octet ≡ false) (take at line) =
    All-from_get_or (λ (x : ℕ). is_space x ≡ false) (take at line) 0
    (λ i l. let inside : i < at = omega (arith, length-take at line) in
    ap is_space (get_or-take at line i 0 inside) ∙ false_from_ne_true (get_or line i 0 == 32) (none i (omega arith) inside)) in
    let long : 0 < length (take at line) = omega (arith, length-take at line) in
    ap words_of (sym (take-append-drop at line) ∙ ap (λ t. take at line ++ t) space)
    ∙ words_of-first (take at line) (drop (suc at) line) word long
    ∙ ap (λ t. take at line ∷ words_of t) (sym space)

pub words_of-whole : (line : List ℕ) → 0 < length line
    → ((k : ℕ) → 0 ≤ k → k < length line → (get_or line k 0 == 32) ≡ true → ⊥) → words_of line ≡ line ∷ []
words_of-whole line some none =
    words_of-last line
    (All-from_get_or (λ (x : ℕ). is_space x ≡ false) line 0
    (λ i lt. false_from_ne_true (get_or line i 0 == 32) (none i (omega arith) lt)))
    some

-- ---- numbers

all_same : (word : List ℕ) → all_ascii_digits word ≡ list_all is_ascii_digit word
all_same [] = refl
all_same (octet ∷ octets) = ap (λ b. is_ascii_digit octet && b) (all_same octets)

abbrev pub ok_of : {T E : Type 0} → Result T E → Option T
ok_of (Ok x) = Some x
ok_of (Err e) = None

number_if : (word : List ℕ) (b : Bool) → is_numeral word ≡ true → nat_lt (digits_value 10 word) (2 ^ 64) ≡ b
    → number_of word ≡ cond b (Some (digits_value 10 word)) None
number_if word true e l = rw (e, l) refl
number_if word false e l = rw (e, l) refl

all_digits : (word : List ℕ) → is_numeral word ≡ true → list_all is_ascii_digit word ≡ true
all_digits word e = (and_parts (is_word word) (list_all is_ascii_digit word) e).1

numeral_some : (word : List ℕ) → is_numeral word ≡ true → 0 < length word
numeral_some [] e = cc e
numeral_some (octet ∷ octets) e = omega arith

-- digits are a text
pub numeral_is_text : (word : List ℕ) → is_numeral word ≡ true → IsUtf8 word
numeral_is_text word e =
    IsUtf8-from_ascii word
    (IsAscii-from_digits word ((numerals_by_value (λ ds. all_ascii_digits ds ≡ true) tells_all_ascii_digits).to word
    (all_same word ∙ all_digits word e)))

read_digits : {E : Type 0} (word : List ℕ) (r : Result ℕ E) → is_numeral word ≡ true
    → OkIff r ((0 < length word) × (digits_value 10 word < 2 ^ 64)) (digits_value 10 word) → number_of word ≡ ok_of r
read_digits word (Ok x) e q = number_if word true e (lt-ltb (digits_value 10 word) (2 ^ 64) q.0.1) ∙ ap Some (sym q.1)
read_digits word (Err fault) e q =
    number_if word false e
    (false_from_ne_true (nat_lt (digits_value 10 word) (2 ^ 64)) (λ l. q (numeral_some word e, ltb-true (digits_value 10 word) (2 ^ 64) l)))

-- what std reads of digits is the number that they write
pub number_read : {E : Type 0} (word : List ℕ) (r : Result ℕ E) → is_numeral word ≡ true → ParsesUnsigned 64 10 word r
    → number_of word ≡ ok_of r
number_read word r e h =
    read_digits word r e (parse_digits (numerals_by_value (λ ds. all_ascii_digits ds ≡ true) tells_all_ascii_digits) 64 word r h
    (all_same word ∙ all_digits word e))

abbrev pub numbers_after : List ℕ → Option (List ℕ) → Option (List ℕ)
numbers_after [] more = more
numbers_after (number ∷ numbers) more = number_before (Some number) (numbers_after numbers more)

pub numbers_after-snoc : (numbers : List ℕ) (number : ℕ) (more : Option (List ℕ))
    → numbers_after (numbers ++ number ∷ []) more ≡ numbers_after numbers (number_before (Some number) more)
numbers_after-snoc [] number more = refl
numbers_after-snoc (first ∷ numbers) number more = ap (number_before (Some first)) (numbers_after-snoc numbers number more)

pub numbers_after-none : (numbers : List ℕ) → numbers_after numbers None ≡ None
numbers_after-none [] = refl
numbers_after-none (number ∷ numbers) = ap (number_before (Some number)) (numbers_after-none numbers)

pub numbers_after-all : (numbers : List ℕ) → numbers_after numbers (Some []) ≡ Some numbers
numbers_after-all [] = refl
numbers_after-all (number ∷ numbers) = ap (number_before (Some number)) (numbers_after-all numbers)

-- as many as there are words
length_before : (words : List (List ℕ)) (first : Option ℕ) (others : Option (List ℕ)) (numbers : List ℕ)
    → ((more : List ℕ) → others ≡ Some more → length more ≡ length words) → number_before first others ≡ Some numbers
    → length numbers ≡ suc (length words)
length_before words None others numbers h e = cc e
length_before words (Some number) None numbers h e = cc e
length_before words (Some number) (Some more) numbers h e =
    let same : numbers ≡ number ∷ more = cc e in
    ap length same ∙ ap suc (h more refl)

pub numbers_of-length : (words : List (List ℕ)) (numbers : List ℕ) → numbers_of words ≡ Some numbers → length numbers ≡ length words
numbers_of-length [] numbers e = let same : numbers ≡ [] = cc e in ap length same
numbers_of-length (word ∷ words) numbers e =
    length_before words (number_of word) (numbers_of words) numbers (λ more o. numbers_of-length words more o) e

-- ---- hexadecimal

spelled : (parts : List (List ℕ)) → octets_of_words (filter is_word parts) ≡ octets_of_words parts
spelled [] = refl
spelled ([] ∷ parts) =
    let dropped : filter is_word ([] ∷ parts) ≡ filter is_word parts = search rules in
    ap octets_of_words dropped ∙ spelled parts ∙ sym (octets_before-nothing (octets_of_words parts))
    ∙ ap (λ r. octets_before r (octets_of_words parts)) (sym decode_of-nothing)
spelled ((octet ∷ octets) ∷ parts) =
    let kept : filter is_word ((octet ∷ octets) ∷ parts) ≡ (octet ∷ octets) ∷ filter is_word parts = search rules in
    ap octets_of_words kept ∙ ap (octets_before (decode_of (octet ∷ octets))) (spelled parts)

-- empty words spell nothing
pub words_spell : (line : List ℕ) → octets_of_words (words_of line) ≡ hex_octets line
words_spell line = spelled (slice_split is_space line)
