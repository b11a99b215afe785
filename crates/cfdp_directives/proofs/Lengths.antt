-- Lengths of what is written.
use Rattle.std.proofs.Common.{◌≡◌, ◌≤◌, ◌<◌, ℕ, ◌+◌, ◌*◌, ◌/◌, ◌-◌, List, [], ◌∷◌, length, Bool, true, false, refl, arith}
use Rattle.std.specs.List.{flat_map}
use Rattle.std.proofs.lemmas.List.{length-append}
use Rattle.byteorder.specs.Endian.{big_bytes}
use Rattle.byteorder.specs.Numbers.{length-bytes_high_first}
use Rattle.cfdp_pdus.specs.Bits.{fss}
use Rattle.cfdp_directives.specs.Reading.{pair_len}
use Rattle.cfdp_directives.specs.Spelling.{range_octets, nak_field, most_requests}
use Rattle.cfdp_directives.specs.Laws.{MostRequestsFit}

pub range_len : (large : Bool) (r : ℕ × ℕ) → length (range_octets large r) ≡ pair_len large
range_len large r = omega (
  arith,
  length-append (big_bytes (fss large) r.0) (big_bytes (fss large) r.1),
  length-bytes_high_first (fss large) r.0,
  length-bytes_high_first (fss large) r.1,
)

pub ranges_len : (large : Bool) (rs : List (ℕ × ℕ)) → length (flat_map (range_octets large) rs) ≡ pair_len large * length rs
ranges_len true [] = refl
ranges_len false [] = refl
ranges_len true (r ∷ rs) = omega (arith, range_len true r, length-append (range_octets true r) (flat_map (range_octets true) rs), ranges_len true rs)
ranges_len false (r ∷ rs) = omega (arith, range_len false r, length-append (range_octets false r) (flat_map (range_octets false) rs), ranges_len false rs)

pub nak_len : (large : Bool) (scope : ℕ × ℕ) (rs : List (ℕ × ℕ)) → length (nak_field large scope rs) ≡ 1 + pair_len large * (1 + length rs)
unfolding nak_field
nak_len large scope rs =
    let all = ranges_len large (scope ∷ rs) in
    omega (arith, all)

-- the directive code, the scope and the requests
pub nak_parts : (large : Bool) (scope : ℕ × ℕ) (rs : List (ℕ × ℕ))
    → length (nak_field large scope rs) ≡ 1 + pair_len large + length (flat_map (range_octets large) rs)
unfolding nak_field
nak_parts large scope rs = omega (arith, range_len large scope, length-append (range_octets large scope) (flat_map (range_octets large) rs))

-- ---- how many requests fit

pub nak_short : (large : Bool) (n : ℕ) → n ≤ most_requests large → 1 + pair_len large * (1 + n) ≤ 65535
nak_short true n few = omega arith
nak_short false n few = omega arith

short_nak : (large : Bool) (n : ℕ) → 1 + pair_len large * (1 + n) ≤ 65535 → n ≤ most_requests large
short_nak true n short = omega arith
short_nak false n short = omega arith

pub most_requests_fit : MostRequestsFit
most_requests_fit large scope requests = (
  λ few. omega (arith, nak_len large scope requests, nak_short large (length requests) few),
  λ short. short_nak large (length requests) (omega (arith, nak_len large scope requests)),
)

-- the scope and the requests of a data field that was read
pub counted_few : (large : Bool) (len : ℕ) → len < 65535 → len / pair_len large - 1 ≤ most_requests large
counted_few true len short = omega arith
counted_few false len short = omega arith
