-- How a word of hexadecimal digits is decoded.
--
--   value_of    the value of a digit, in either case; 255 of an octet that is none
--   IsValue     a number is a value, or neither is below 16
--   AreSixteenOctets  sixteen octets
--   AreValues   sixteen numbers are the values of octets, or not below 16 where these are no digits
--   AreNibbles  each lane is below 16
--   ArePairs    octets are those of the first n pairs of a word, if these are digits, which a fact says
use Rattle.std.specs.Prelude.{◌≡◌, ℕ, ◌+◌, ◌*◌, ◌<◌, List, length, slice_index, Option, Some, None}
use Rattle.std.specs.Simd.Lanes.{Each1}
use Rattle.hex.specs.Hex.{hex_digit_value}

abbrev pub value_by : Option ℕ → ℕ
value_by (Some value) = value
value_by None = 255

abbrev pub value_of : ℕ → ℕ
value_of octet = value_by (hex_digit_value octet)

pub record IsValue (number value : ℕ) : Type 0 where
  pub read : number < 16 → number ≡ value
  pub found : value < 16 → number ≡ value

pub record AreSixteenOctets (octets : List ℕ) : Type 0 where
  pub long : length octets ≡ 16
  pub small : (k : ℕ) → slice_index octets k < 256

pub record AreValues (octets values : List ℕ) : Type 0 where
  pub long : length values ≡ 16
  pub are : (k : ℕ) → k < 16 → IsValue (slice_index values k) (value_of (slice_index octets k))

abbrev pub AreNibbles : List ℕ → Type 0
AreNibbles lanes = Each1 (λ lane. lane < 16) lanes

-- the fact holds exactly if each octet of the pairs is a digit
pub record ArePairs (word octets : List ℕ) (n : ℕ) (digits : Type 0) : Type 0 where
  pub spelled : digits → (k : ℕ) → k < n
      → slice_index octets k ≡ value_of (slice_index word (2 * k)) * 16 + value_of (slice_index word (2 * k + 1))
  pub tested : digits → (k : ℕ) → k < 2 * n → value_of (slice_index word k) < 16
  pub good : ((k : ℕ) → k < 2 * n → value_of (slice_index word k) < 16) → digits
