-- A CRC is added to a PDU, and taken off again.
use Rattle.std.proofs.Common.{◌≡◌, ℕ, suc, ◌+◌, ◌-◌, ◌*◌, ◌/◌, ◌%◌, ◌<◌, ◌≤◌, List, [], ◌∷◌, ◌++◌, length, take, Bool, true, false, eqb, ltb, if◌then◌else◌, Option, Some, Result, Ok, Err, refl, sym, ap, ◌∙◌, arith}
use Rattle.std.proofs.lemmas.Bool.{le-ltb, eq-eqb, ne_eqb, eqb-true, ltb-false}
use Rattle.std.proofs.lemmas.List.{length-append, take-append-le, take_all}
use Rattle.cfdp_crc.specs.Crc.{crc_of}
use Rattle.cfdp_crc.specs.Laws.{AreOctets}
use Rattle.cfdp_crc.specs.declared.sealing.CrcFault.{CrcFault}
use Rattle.cfdp_crc.specs.declared.sealing.SealFault.{SealFault}
use Rattle.cfdp_crc.specs.declared.sealing.SealFault.TheVariants.{NotAPdu, HasCrc, TooLong}
use Rattle.cfdp_crc.specs.Seal.{header_len, sealed_by, sealed_at, opened_by, unsealed, plain_by, plain_len, with_flag, with_crc, sealed_from, UnsealsSealed}
use Rattle.cfdp_crc.proofs.Noticing.{nothing_is_left}

-- a PDU that can get a CRC, by its first four octets and the others
record IsPlain (first high low fourth : ℕ) (rest : List ℕ) (len : ℕ) : Type 0 where
  version : first / 32 ≡ 1
  no_crc : first / 2 % 2 ≡ 0
  len-is : len ≡ 256 * high + low
  whole : length (first ∷ high ∷ low ∷ fourth ∷ rest) ≡ header_len fourth + len
  room : len ≤ 65533

-- which tests held where a length is reported
abbrev by_tests : Bool → Bool → ℕ → Result ℕ SealFault
by_tests same long found = if same then (if long then Err TooLong else Ok found) else Err NotAPdu

stated : (same long : Bool) (found len : ℕ) → by_tests same long found ≡ Ok len →
    (same ≡ true) × (long ≡ false) × (found ≡ len)
stated true false found len e = (refl, refl, cc)
stated true true found len e = absurd cc
stated false long found len e = absurd cc

read : (version plain : Bool) (inner : Result ℕ SealFault) (len : ℕ) →
    (if version then (if plain then inner else Err HasCrc) else Err NotAPdu) ≡ Ok len →
    (version ≡ true) × (plain ≡ true) × (inner ≡ Ok len)
read true true inner len e = (refl, refl, e)
read true false inner len e = absurd cc
read false plain inner len e = absurd cc

plain_is : (first high low fourth : ℕ) (rest : List ℕ) (len : ℕ) →
    plain_len (first ∷ high ∷ low ∷ fourth ∷ rest) ≡ Ok len → IsPlain first high low fourth rest len
unfolding plain_len
plain_is first high low fourth rest len e =
    let octets : List ℕ = first ∷ high ∷ low ∷ fourth ∷ rest in
    let found = 256 * high + low in
    let whole = header_len fourth + found in
    let outer = read (eqb (first / 32) 1) (eqb (first / 2 % 2) 0) (plain_by octets found whole) len e in
    let inner = stated (eqb (length octets) whole) (ltb 65533 found) found len outer.2 in
    let long : length octets ≡ whole = eqb-true (length octets) whole inner.0 in
    let few : found ≤ 65533 = ltb-false 65533 found inner.1 in
    record {
      version = eqb-true (first / 32) 1 outer.0;
      no_crc = eqb-true (first / 2 % 2) 0 outer.1;
      len-is = sym inner.2;
      whole = long ∙ ap (λ (n : ℕ). header_len fourth + n) inner.2;
      room = omega (arith, few, inner.2);
    }

-- fewer than four octets are no PDU
abbrev without_header : Bool → Bool → Result ℕ SealFault
without_header version plain = if version then (if plain then Err NotAPdu else Err HasCrc) else Err NotAPdu

none_of : (version plain : Bool) (len : ℕ) → without_header version plain ≡ Ok len → ⊥
none_of true true len e = absurd cc
none_of true false len e = absurd cc
none_of false plain len e = absurd cc

by_right_crc : (octets : List ℕ) (len whole : ℕ) → length octets ≡ whole → 2 ≤ len → crc_of octets ≡ 0 → sealed_by octets len whole ≡ Ok (Some len)
by_right_crc octets len whole long some left =
    rw (
      le-ltb (length octets) whole (omega (arith, long)),
      le-ltb whole (length octets) (omega (arith, long)),
      le-ltb len 2 some,
      eq-eqb (crc_of octets) 0 left,
    ) refl

-- of such a PDU
of_plain : (first high low fourth : ℕ) (rest : List ℕ) (L : ℕ) → AreOctets (first ∷ high ∷ low ∷ fourth ∷ rest) →
    IsPlain first high low fourth rest L →
    let front = with_flag (first ∷ high ∷ low ∷ fourth ∷ rest) L in
    unsealed (with_crc front (crc_of front)) ≡ Ok (first ∷ high ∷ low ∷ fourth ∷ rest)
unfolding sealed_at
of_plain first high low fourth rest L all plain =
    let front : List ℕ = (first + 2) ∷ ((L + 2) / 256) ∷ ((L + 2) % 256) ∷ fourth ∷ rest in
    let crc = crc_of front in
    let whole = with_crc front crc in
    let len = 256 * ((L + 2) / 256) + (L + 2) % 256 in
    let len-is : len ≡ L + 2 = omega arith in
    let low-lt : low < 256 = all.1.1.0 in
    let version : eqb ((first + 2) / 32) 1 ≡ true = eq-eqb ((first + 2) / 32) 1 (omega (arith, plain.version, plain.no_crc)) in
    let flagged : eqb ((first + 2) / 2 % 2) 0 ≡ false = ne_eqb ((first + 2) / 2 % 2) 0 (λ e. omega (arith, e, plain.no_crc)) in
    let octets : AreOctets front = (omega (arith, plain.version), (omega (arith, plain.room), (omega arith, (all.1.1.1.0, all.1.1.1.1)))) in
    let none : crc_of whole ≡ 0 = nothing_is_left front octets in
    let tail = crc / 256 ∷ crc % 256 ∷ [] in
    let long : length whole ≡ header_len fourth + len = omega (arith, length-append rest tail, plain.whole, len-is) in
    let right : sealed_by whole len (header_len fourth + len) ≡ Ok (Some len) =
    by_right_crc whole len (header_len fourth + len) long (omega (arith, len-is)) none in
    let judged : sealed_at whole ≡ Ok (Some len) = rw (version, flagged) right in
    let more = rest ++ tail in
    let cut : take (length rest) more ≡ rest = take-append-le (length rest) rest tail (omega arith) ∙ take_all (length rest) rest (omega arith) in
    let n-is : length whole - 2 ≡ suc (suc (suc (suc (length rest)))) = omega (arith, length-append rest tail) in
    let first-is : first + 2 - 2 ≡ first = omega arith in
    let high-is : (len - 2) / 256 ≡ high = omega (arith, len-is, low-lt, plain.len-is) in
    let low-is : (len - 2) % 256 ≡ low = omega (arith, len-is, low-lt, plain.len-is) in
    ap (λ (r : Result (Option ℕ) CrcFault). opened_by r whole) judged
    ∙ ap (λ (n : ℕ). Ok (take n ((first + 2 - 2) ∷ ((len - 2) / 256) ∷ ((len - 2) % 256) ∷ fourth ∷ more))) n-is
    ∙ ap (λ (x : ℕ). Ok (x ∷ ((len - 2) / 256) ∷ ((len - 2) % 256) ∷ fourth ∷ take (length rest) more)) first-is
    ∙ ap (λ (x : ℕ). Ok (first ∷ x ∷ ((len - 2) % 256) ∷ fourth ∷ take (length rest) more)) high-is
    ∙ ap (λ (x : ℕ). Ok (first ∷ high ∷ x ∷ fourth ∷ take (length rest) more)) low-is
    ∙ ap (λ (xs : List ℕ). Ok (first ∷ high ∷ low ∷ fourth ∷ xs)) cut

of_sealed : (octets : List ℕ) (len : ℕ) → AreOctets octets → plain_len octets ≡ Ok len →
    unsealed (with_crc (with_flag octets len) (crc_of (with_flag octets len))) ≡ Ok octets
unfolding plain_len
of_sealed [] len all e = absurd cc
of_sealed (a ∷ []) len all e = absurd (none_of (eqb (a / 32) 1) (eqb (a / 2 % 2) 0) len e)
of_sealed (a ∷ b ∷ []) len all e = absurd (none_of (eqb (a / 32) 1) (eqb (a / 2 % 2) 0) len e)
of_sealed (a ∷ b ∷ c ∷ []) len all e = absurd (none_of (eqb (a / 32) 1) (eqb (a / 2 % 2) 0) len e)
of_sealed (a ∷ b ∷ c ∷ d ∷ rest) len all e = of_plain a b c d rest len all (plain_is a b c d rest len e)

-- by the length that was reported
by_plain_len : (found : Result ℕ SealFault) (octets whole : List ℕ) → AreOctets octets → plain_len octets ≡ found →
    sealed_from found octets ≡ Ok whole → unsealed whole ≡ Ok octets
by_plain_len (Ok len) octets whole all plain e =
    let whole-is : with_crc (with_flag octets len) (crc_of (with_flag octets len)) ≡ whole = cc in
    ap unsealed (sym whole-is) ∙ of_sealed octets len all plain
by_plain_len (Err fault) octets whole all plain e = absurd cc

pub unseals_sealed : UnsealsSealed
unseals_sealed octets whole all e = by_plain_len (plain_len octets) octets whole all refl e
