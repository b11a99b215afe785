-- Octets put into a buffer.
--   with_octets_at buffer at octets  the octets in the buffer from an offset on; the others are as before
--   filled octets buffer            the octets are the first ones of the buffer; the others are as before
use Rattle.std.specs.Prelude.{ℕ, ◌+◌, List, ◌++◌, length, take, drop}

abbrev pub with_octets_at : List ℕ → ℕ → List ℕ → List ℕ
with_octets_at buffer at octets = take at buffer ++ (octets ++ drop (at + length octets) buffer)

abbrev pub filled : List ℕ → List ℕ → List ℕ
filled octets buffer = octets ++ drop (length octets) buffer
