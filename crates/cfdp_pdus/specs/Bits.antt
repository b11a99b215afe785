-- Bits and numbers in octets.
--   flag index octet        whether the bit with this number is 1, counted from 0 at the lowest
--   one_if b                1 for true, 0 for false
--   IsNumber octets len x   these are len octets, and the number that they spell, the highest first, is x
--   fss large               how many octets a file size or an offset has (CCSDS 727.0-B-5 §5.1.10)
use Rattle.std.specs.Prelude.{◌≡◌, ℕ, ◌/◌, ◌%◌, ◌^◌, ◌==◌, Bool, true, false, List, length}
use Rattle.byteorder.specs.Endian.{big_number}

abbrev pub flag : ℕ → ℕ → Bool
flag index octet = octet / 2 ^ index % 2 == 1

abbrev pub one_if : Bool → ℕ
one_if true = 1
one_if false = 0

pub record IsNumber (octets : List ℕ) (len x : ℕ) : Type 0 where
  pub len_is : length octets ≡ len
  pub spelled : x ≡ big_number len octets

abbrev pub fss : Bool → ℕ
fss true = 8
fss false = 4
