-- The modular checksum (CCSDS 727.0-B-5, checksum procedures): the octets, each at its position in a word of four, the
-- first of them the highest, added up modulo 2^32.
--   octet_weight i       what an octet at offset i counts
--   weighed_from i octets    the sum of the octets from offset i, each times its weight
--   checksum_at i octets     this sum modulo 2^32: what octets from offset i on add to a file's checksum
--   checksum octets      the sum of all of them modulo 2^32
use Rattle.std.specs.Prelude.{ℕ, ◌+◌, ◌-◌, ◌*◌, ◌%◌, ◌^◌, List, [], ◌∷◌}

abbrev pub octet_weight : ℕ → ℕ
octet_weight i = 256 ^ (3 - i % 4)

unfoldable pub weighed_from : ℕ → List ℕ → ℕ
weighed_from i [] = 0
weighed_from i (octet ∷ octets) = octet * octet_weight i + weighed_from (i + 1) octets

abbrev pub checksum_at : ℕ → List ℕ → ℕ
checksum_at i octets = weighed_from i octets % 2 ^ 32

abbrev pub checksum : List ℕ → ℕ
checksum octets = checksum_at 0 octets
