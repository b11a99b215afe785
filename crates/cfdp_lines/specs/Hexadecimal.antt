-- Hexadecimal in a line.
--
--   is_space         the octet between words
--   octets_before    what a word spells, and then what the others do
--   octets_of_words  what words spell, if each does
--   hex_octets       the octets that a line of hexadecimal spells, if it does
--
-- A line is words with spaces between them, before and after; each word is pairs of digits, in either case.
use Rattle.std.specs.Prelude.{ℕ, ◌==◌, Bool, List, [], ◌∷◌, ◌++◌, Option, Some, None, Result, Ok, Err}
use Rattle.std.specs.List.{slice_split}
use Rattle.hex.specs.Hex.{decode_of}
use Rattle.hex.specs.declared.error.FromHexError.{FromHexError}

abbrev pub is_space : ℕ → Bool
is_space octet = octet == 32

-- what a word spells, and then what the others do
abbrev pub octets_before : Result (List ℕ) FromHexError → Option (List ℕ) → Option (List ℕ)
octets_before (Ok octets) (Some more) = Some (octets ++ more)
octets_before (Ok octets) None = None
octets_before (Err fault) others = None

abbrev pub octets_of_words : List (List ℕ) → Option (List ℕ)
octets_of_words [] = Some []
octets_of_words (word ∷ words) = octets_before (decode_of word) (octets_of_words words)

abbrev pub hex_octets : List ℕ → Option (List ℕ)
hex_octets line = octets_of_words (slice_split is_space line)
