-- What the CRC finds.
use Rattle.std.proofs.Common.{◌≡◌, ℕ, ◌+◌, ◌*◌, ◌/◌, ◌%◌, ◌^◌, ◌<◌, List, [], ◌∷◌, ◌++◌, refl, sym, ap, ◌∙◌, arith}
use Rattle.std.specs.Int.Bits.{bit_xor, xor_assoc, xor_self}
use Rattle.std.proofs.lemmas.Nat.{xor_lt, xor_comm}
use Rattle.cfdp_crc.specs.Crc.{divided, with_octet, crc_from, crc_of}
use Rattle.cfdp_crc.specs.Laws.{AreOctets, NothingIsLeft, DamageIsNoticed}
use Rattle.cfdp_crc.proofs.Dividing.{xor_cancels, joined, doubled, divided_lt, divided_one, divided_xor}

-- an octet as the high octet of a CRC
high_octet : (a : ℕ) → a < 256 → a * 2 ^ 8 < 65536
high_octet a h = omega (arith, h)

octet_lt : (left a : ℕ) → left < 65536 → a < 256 → bit_xor left (a * 2 ^ 8) < 65536
octet_lt left a hl ha = xor_lt 16 left (a * 2 ^ 8) hl (high_octet a ha)

with_octet_lt : (left a : ℕ) → left < 65536 → a < 256 → with_octet left a < 65536
with_octet_lt left a hl ha = divided_lt 8 (bit_xor left (a * 2 ^ 8)) (octet_lt left a hl ha)

crc_lt : (left : ℕ) (octets : List ℕ) → left < 65536 → AreOctets octets → crc_from left octets < 65536
crc_lt left [] hl all = hl
crc_lt left (x ∷ xs) hl all = crc_lt (with_octet left x) xs (with_octet_lt left x hl all.0) all.1

crc_append : (left : ℕ) (xs ys : List ℕ) → crc_from left (xs ++ ys) ≡ crc_from (crc_from left xs) ys
crc_append left [] ys = refl
crc_append left (x ∷ xs) ys = crc_append (with_octet left x) xs ys

two_octets : (left a b : ℕ) → left < 65536 → a < 256 → b < 256 → crc_from left (a ∷ b ∷ []) ≡ divided 8 (divided 8 (bit_xor left (a * 2 ^ 8 + b)))
two_octets left a b hl ha hb =
    let high = doubled 8 b in
    let high-is : high ≡ b * 2 ^ 8 = omega arith in
    let both : bit_xor (bit_xor left (a * 2 ^ 8)) b ≡ bit_xor left (a * 2 ^ 8 + b) = xor_assoc left (a * 2 ^ 8) b ∙ ap (bit_xor left) (joined a b hb) in
    ap (divided 8) (
    ap (bit_xor (with_octet left a)) (sym high-is)
    ∙ sym (divided_xor 8 (bit_xor left (a * 2 ^ 8)) b (octet_lt left a hl ha) (omega (arith, high-is, hb)))
    ∙ ap (divided 8) both
    )

pub nothing_is_left : NothingIsLeft
nothing_is_left octets all =
    let left = crc_of octets in
    let bound : left < 65536 = crc_lt 65535 octets (omega arith) all in
    let whole : left / 256 * 2 ^ 8 + left % 256 ≡ left = omega arith in
    crc_append 65535 octets (left / 256 ∷ left % 256 ∷ [])
    ∙ two_octets left (left / 256) (left % 256) bound (omega (arith, bound)) (omega arith)
    ∙ ap (λ (x : ℕ). divided 8 (divided 8 (bit_xor left x))) whole
    ∙ ap (λ (x : ℕ). divided 8 (divided 8 x)) (xor_self left)

-- if the same octets follow, two CRCs are equal only if those before were
octet_one : (a b x : ℕ) → a < 65536 → b < 65536 → x < 256 → with_octet a x ≡ with_octet b x → a ≡ b
octet_one a b x ha hb hx e =
    xor_cancels a b (x * 2 ^ 8) (divided_one 8 (bit_xor a (x * 2 ^ 8)) (bit_xor b (x * 2 ^ 8)) (octet_lt a x ha hx) (octet_lt b x hb hx) e)

crc_one : (a b : ℕ) (octets : List ℕ) → a < 65536 → b < 65536 → AreOctets octets → crc_from a octets ≡ crc_from b octets → a ≡ b
crc_one a b [] ha hb all e = e
crc_one a b (x ∷ xs) ha hb all e =
    octet_one a b x ha hb all.0 (crc_one (with_octet a x) (with_octet b x) xs (with_octet_lt a x ha all.0) (with_octet_lt b x hb all.0) all.1 e)

two_one : (left a b c d : ℕ) → left < 65536 → a < 256 → b < 256 → c < 256 → d < 256 →
    crc_from left (a ∷ b ∷ []) ≡ crc_from left (c ∷ d ∷ []) → (a ≡ c) × (b ≡ d)
two_one left a b c d hl ha hb hc hd e =
    let ab = a * 2 ^ 8 + b in
    let cd = c * 2 ^ 8 + d in
    let ab-lt : ab < 65536 = omega (arith, ha, hb) in
    let cd-lt : cd < 65536 = omega (arith, hc, hd) in
    let x-lt : bit_xor left ab < 65536 = xor_lt 16 left ab hl ab-lt in
    let y-lt : bit_xor left cd < 65536 = xor_lt 16 left cd hl cd-lt in
    let once = sym (two_octets left a b hl ha hb) ∙ e ∙ two_octets left c d hl hc hd in
    let inner = divided_one 8 (divided 8 (bit_xor left ab)) (divided 8 (bit_xor left cd)) (divided_lt 8 (bit_xor left ab) x-lt)
    (divided_lt 8 (bit_xor left cd) y-lt) once in
    let xored = divided_one 8 (bit_xor left ab) (bit_xor left cd) x-lt y-lt inner in
    let same : ab ≡ cd = xor_cancels ab cd left (xor_comm ab left ∙ xored ∙ xor_comm left cd) in
    (omega (arith, same, hb, hd), omega (arith, same, hb, hd))

pub damage_is_noticed : DamageIsNoticed
damage_is_noticed front following a b c d all rest ha hb hc hd e =
    let left = crc_from 65535 front in
    let bound : left < 65536 = crc_lt 65535 front (omega arith) all in
    let here = crc_from left (a ∷ b ∷ []) in
    let there = crc_from left (c ∷ d ∷ []) in
    let here-lt : here < 65536 = crc_lt left (a ∷ b ∷ []) bound (ha, (hb, tt)) in
    let there-lt : there < 65536 = crc_lt left (c ∷ d ∷ []) bound (hc, (hd, tt)) in
    let tails : crc_from here following ≡ crc_from there following =
    sym (crc_append 65535 front (a ∷ b ∷ following)) ∙ e ∙ crc_append 65535 front (c ∷ d ∷ following) in
    two_one left a b c d bound ha hb hc hd (crc_one here there following here-lt there-lt rest tails)
