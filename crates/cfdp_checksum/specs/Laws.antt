-- What is true of the modular checksum.
--     PiecesAddUp      of two pieces, the second beginning at a multiple of four
--     OffsetsAddUp     of two pieces, the second at the offset at which the first ends
--     OnlyWordOffsetsCount  an offset counts by its position in a word of four
--     ZerosAddNothing  of octets, and zeros after them
--     PartsAreReplaced of a part in the middle, which is replaced: what was there goes off, and what is there comes to
--     it
use Rattle.std.specs.Prelude.{◌≡◌, ℕ, ◌+◌, ◌*◌, ◌%◌, ◌^◌, List, ◌++◌, length, replicate}
use Rattle.cfdp_checksum.specs.Checksum.{checksum_at, checksum}

abbrev pub PiecesAddUp : Type 0
PiecesAddUp = (words : ℕ) (xs ys : List ℕ) → length xs ≡ 4 * words → checksum (xs ++ ys)
    ≡ (checksum xs + checksum ys) % 2 ^ 32

abbrev pub OffsetsAddUp : Type 0
OffsetsAddUp = (i : ℕ) (xs ys : List ℕ) → checksum_at i (xs ++ ys)
    ≡ (checksum_at i xs + checksum_at (i + length xs) ys) % 2 ^ 32

abbrev pub OnlyWordOffsetsCount : Type 0
OnlyWordOffsetsCount = (i j : ℕ) (xs : List ℕ) → i % 4 ≡ j % 4 → checksum_at i xs ≡ checksum_at j xs

abbrev pub ZerosAddNothing : Type 0
ZerosAddNothing = (i n : ℕ) (xs : List ℕ) → checksum_at i (xs ++ replicate n 0) ≡ checksum_at i xs

abbrev pub PartsAreReplaced : Type 0
PartsAreReplaced = (front old new back : List ℕ) → length new ≡ length old
    → (checksum (front ++ new ++ back) + checksum_at (length front) old) % 2 ^ 32
    ≡ (checksum (front ++ old ++ back) + checksum_at (length front) new) % 2 ^ 32
