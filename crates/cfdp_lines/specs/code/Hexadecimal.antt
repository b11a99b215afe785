-- What only the proofs of the code need of `Hexadecimal`.
--   octets_or_none   the octets of a word, if it spells some
use Rattle.std.specs.Prelude.{ℕ, List, [], Result, Ok, Err}
use Rattle.hex.specs.declared.error.FromHexError.{FromHexError}

-- the octets of a word, or none
abbrev pub octets_or_none : Result (List ℕ) FromHexError → List ℕ
octets_or_none (Ok octets) = octets
octets_or_none (Err fault) = []
