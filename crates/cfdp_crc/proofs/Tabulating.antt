-- The words of the table are what is left of each octet, and one look-up divides eight bits.
use Rattle.std.proofs.Common.{◌≡◌, ℕ, zero, suc, ◌+◌, ◌*◌, ◌/◌, ◌%◌, ◌^◌, ◌<◌, List, [], ◌∷◌, length, get_or, Bool, true, ◌&&◌, eqb, refl, sym, ap, ◌∙◌, arith}
use Rattle.std.specs.Int.Bits.{bit_xor}
use Rattle.std.proofs.lemmas.Nat.{xor_lt, xor_comm, xor_block}
use Rattle.std.proofs.lemmas.Bool.{eqb-true, and_parts}
use Rattle.cfdp_crc.specs.Crc.{divided, with_octet}
use Rattle.cfdp_crc.specs.declared.remainders.TheConstants.{WORDS}
use Rattle.cfdp_crc.proofs.Dividing.{joined, doubled, divided_xor}

-- each word of the list is what is left of its index, counted from n
are_words : ℕ → List ℕ → Bool
are_words n [] = true
are_words n (w ∷ ws) = eqb w (divided 8 (n * 256)) && are_words (suc n) ws

word_in : (n i : ℕ) (ws : List ℕ) → are_words n ws ≡ true → i < length ws → get_or ws i 0 ≡ divided 8 ((n + i) * 256)
unfolding are_words
word_in n i [] e h = absurd (omega arith)
word_in n zero (w ∷ ws) e h =
    let same : n ≡ n + 0 = omega arith in
    eqb-true w (divided 8 (n * 256)) (and_parts (eqb w (divided 8 (n * 256))) (are_words (suc n) ws) e).0
    ∙ ap (λ (k : ℕ). divided 8 (k * 256)) same
word_in n (suc i) (w ∷ ws) e h =
    let next : suc n + i ≡ n + suc i = omega arith in
    let found = word_in (suc n) i ws (and_parts (eqb w (divided 8 (n * 256))) (are_words (suc n) ws) e).1 (omega arith) in
    found ∙ ap (λ (k : ℕ). divided 8 (k * 256)) next

all_are_words : are_words 0 WORDS ≡ true
unfolding are_words
all_are_words = refl

pub word_of-is : (octet : ℕ) → octet < 256 → get_or WORDS octet 0 ≡ divided 8 (octet * 256)
word_of-is octet h =
    let same : 0 + octet ≡ octet = omega arith in
    word_in 0 octet WORDS all_are_words h ∙ ap (λ (k : ℕ). divided 8 (k * 256)) same

-- what is left after an octet, by the word of what meets it
pub by_word : (left octet : ℕ) → left < 65536 → octet < 256 →
    bit_xor (divided 8 (bit_xor (left / 256) octet * 2 ^ 8)) (left % 256 * 256) ≡ with_octet left octet
by_word left octet hl ho =
    let high = left / 256 in
    let low = left % 256 in
    let i = bit_xor high octet in
    let high-lt : high < 256 = omega (arith, hl) in
    let low-lt : low < 256 = omega arith in
    let i-lt : i < 256 = xor_lt 8 high octet high-lt ho in
    let left-is : left ≡ high * 2 ^ 8 + low = omega arith in
    let octet-is : octet * 2 ^ 8 ≡ octet * 2 ^ 8 + 0 = omega arith in
    let block = xor_block 8 high octet low 0 low-lt (omega arith) in
    let alone : bit_xor low 0 ≡ low = xor_comm low 0 in
    let met : bit_xor left (octet * 2 ^ 8) ≡ bit_xor (i * 2 ^ 8) low =
    ap (λ (x : ℕ). bit_xor x (octet * 2 ^ 8)) left-is ∙ ap (bit_xor (high * 2 ^ 8 + low)) octet-is
    ∙ omega (arith, block, alone, joined i low low-lt) in
    let moved : doubled 8 low ≡ low * 256 = omega arith in
    let apart = divided_xor 8 (i * 2 ^ 8) low (omega (arith, i-lt)) (omega (arith, moved, low-lt)) in
    sym (ap (divided 8) met ∙ apart ∙ ap (bit_xor (divided 8 (i * 2 ^ 8))) moved)
