-- A block: 8 octets for the links of its owner, and a payload of 120 octets after them.
--     blank_block        a block of zeros
--     payload_part       some octets of a block's payload
--     with_part          a block with some octets of its payload replaced
--     copied             a block after a copy of octets from payload to payload
use Rattle.std.specs.Prelude.{ℕ, ◌+◌, List, ◌++◌, length, take, drop, replicate}

-- 128 octets 0
unfoldable pub blank_block : List ℕ
blank_block = replicate 128 0

-- count octets of the block's payload, from the offset at in it
abbrev pub payload_part : List ℕ → ℕ → ℕ → List ℕ
payload_part block at count = take count (drop (8 + at) block)

-- the block with the octets in its payload from the offset at on, as many as the part has, replaced by the part
abbrev pub with_part : List ℕ → ℕ → List ℕ → List ℕ
with_part block at part = take (8 + at) block ++ part ++ drop (8 + at + length part) block

-- the target after count octets of its payload were copied from the payload of the source
abbrev pub copied : List ℕ → ℕ → List ℕ → ℕ → ℕ → List ℕ
copied source from target at count = with_part target at (payload_part source from count)
