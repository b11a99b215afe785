-- Octets that are first in a run, with zeros after them.
--     more_zeros                             one block of zeros more
--     extended_octets, extended_zeros        the run is longer, and the octets are
--     front_written, rest_written            octets are written among the first ones
--     front_read                             and are read
--     blocks_of-some, blocks_of-none, taken_as     the blocks of a number of octets
use Rattle.std.proofs.Common.{◌≡◌, ℕ, ◌+◌, ◌-◌, ◌*◌, ◌<◌, ◌≤◌, List, ◌++◌, length, take, drop, replicate, refl, sym, ap, ◌∙◌, arith, append_assoc, length-append}
use Rattle.std.proofs.lemmas.List.{drop-replicate, take-replicate, replicate-append-replicate, take-append-drop, length-take-le, take_at, drop_at, length-drop}
use Rattle.std.specs.Prelude.{slice_range}
use Rattle.cfdp_arena.specs.Blocks.{blank_block}
use Rattle.cfdp_actions.specs.Filestore.{blocks_of}
use Rattle.cfdp_actions.specs.Store.{extended, overwritten}
use Rattle.cfdp_tree.specs.code.Block.{payload}
use Rattle.cfdp_tree.proofs.OfRuns.OctetsInLists.{take-right, drop-right, overwritten-left, slice-left, slice_is}

zeros_block : payload blank_block ≡ replicate 120 0
unfolding blank_block
zeros_block = drop-replicate 8 128 0

pub more_zeros : (xs : List ℕ) (a b : ℕ) → b ≡ a + 120 → (xs ++ replicate a 0) ++ payload blank_block ≡ xs ++ replicate b 0
more_zeros xs a b e =
    ap (λ ys. (xs ++ replicate a 0) ++ ys) zeros_block
    ∙ append_assoc xs (replicate a 0) (replicate 120 0)
    ∙ ap (λ ys. xs ++ ys) (replicate-append-replicate a 120 0)
    ∙ ap (λ n. xs ++ replicate n 0) (sym e)

-- xs are the octets of count blocks, of which size ones are meant
module _ (xs : List ℕ) (size count : ℕ) (long : length xs ≡ 120 * count) (within : size ≤ 120 * count) (zeros : drop size xs ≡ replicate (120 * count - size) 0)
    (new_size new_count : ℕ) (longer : size ≤ new_size) (fits : new_size ≤ 120 * new_count) (more : count ≤ new_count) where
  front : List ℕ
  front = take size xs

  front_long : length front ≡ size
  unfolding front
  front_long = length-take-le size xs (omega arith)

  parts : xs ++ replicate (120 * (new_count - count)) 0 ≡ front ++ replicate (120 * new_count - size) 0
  unfolding front
  parts =
      let a = 120 * count - size in
      let b = 120 * (new_count - count) in
      let all : a + b ≡ 120 * new_count - size = omega arith in
      ap (λ ys. ys ++ replicate b 0) (sym (take-append-drop size xs) ∙ ap (λ ys. take size xs ++ ys) zeros)
      ∙ append_assoc (take size xs) (replicate a 0) (replicate b 0)
      ∙ ap (λ ys. take size xs ++ ys) (replicate-append-replicate a b 0)
      ∙ ap (λ n. take size xs ++ replicate n 0) all

  pub extended_octets : take new_size (xs ++ replicate (120 * (new_count - count)) 0) ≡ extended (take size xs) new_size
  unfolding front
  extended_octets =
      let z = 120 * new_count - size in
      ap (λ ys. take new_size ys) parts
      ∙ take-right front (replicate z 0) (new_size - size) new_size (omega (arith, front_long))
      ∙ ap (λ ys. front ++ ys) (take-replicate (new_size - size) z 0 (omega arith))
      ∙ ap (λ n. front ++ replicate (new_size - n) 0) (sym front_long)

  pub extended_zeros : drop new_size (xs ++ replicate (120 * (new_count - count)) 0) ≡ replicate (120 * new_count - new_size) 0
  extended_zeros =
      let z = 120 * new_count - size in
      let left : z - (new_size - size) ≡ 120 * new_count - new_size = omega arith in
      ap (λ ys. drop new_size ys) parts
      ∙ drop-right front (replicate z 0) (new_size - size) new_size (omega (arith, front_long))
      ∙ drop-replicate (new_size - size) z 0
      ∙ ap (λ n. replicate n 0) left

-- among the first size ones of xs
module _ (xs : List ℕ) (size : ℕ) (there : size ≤ length xs) where
  head : List ℕ
  head = take size xs

  whole : xs ≡ head ++ drop size xs
  unfolding head
  whole = sym (take-append-drop size xs)

  head_long : length head ≡ size
  unfolding head
  head_long = length-take-le size xs there

  module _ (at : ℕ) (octets : List ℕ) (range : at + length octets ≤ size) where
    length-written : length (overwritten head at octets) ≡ size
    length-written =
        omega (
          arith,
          length-append (take at head ++ octets) (drop (at + length octets) head),
          length-append (take at head) octets,
          length-take-le at head (omega (arith, head_long)),
          length-drop (at + length octets) head,
          head_long,
        )

    written : overwritten xs at octets ≡ overwritten head at octets ++ drop size xs
    written = ap (λ ys. overwritten ys at octets) whole ∙ overwritten-left head (drop size xs) at octets (omega (arith, head_long))

    pub front_written : take size (overwritten xs at octets) ≡ overwritten (take size xs) at octets
    unfolding head
    front_written = ap (take size) written ∙ take_at (overwritten head at octets) (drop size xs) size length-written

    pub rest_written : drop size (overwritten xs at octets) ≡ drop size xs
    rest_written = ap (drop size) written ∙ drop_at (overwritten head at octets) (drop size xs) size length-written

  pub front_read : (at n : ℕ) → at + n ≤ size → slice_range xs at (at + n) ≡ slice_range (take size xs) at (at + n)
  unfolding head
  front_read at n range =
      slice_is xs at (at + n) n refl
      ∙ ap (λ ys. take n (drop at ys)) whole
      ∙ slice-left head (drop size xs) at n (omega (arith, head_long))
      ∙ sym (slice_is head at (at + n) n refl)

module _ (n : ℕ) where
  pub blocks_of-some : 0 < n → 0 < blocks_of n
  unfolding blocks_of
  blocks_of-some some = omega arith

  pub blocks_of-none : n ≡ 0 → blocks_of n ≡ 0
  unfolding blocks_of
  blocks_of-none none = omega arith

-- what is free and what is taken, where the size is said in another way
pub taken_as : (free size was now more : ℕ) → free + blocks_of more ≡ was + blocks_of size → now ≡ more → free + blocks_of now ≡ was + blocks_of size
taken_as free size was now more e same = ap (λ n. free + blocks_of n) same ∙ e
