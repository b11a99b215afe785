-- The checksum of octets that change, and of the blocks of a run, one after the other.
--     extended_sum      zeros at the end
--     replaced_sum      a part is replaced
--     joined_sum        octets are put after others
--     none_summed       none of them
--     step_sum          what some octets add, with those of one part more
use Rattle.std.proofs.Common.{◌≡◌, ℕ, ◌+◌, ◌-◌, ◌%◌, ◌^◌, ◌≤◌, List, ◌++◌, length, take, drop, refl, sym, ap, ◌∙◌, arith, length-drop}
use Rattle.std.proofs.lemmas.List.{take-append-drop, drop-drop, length-take-le}
use Rattle.std.specs.Prelude.{slice_range}
use Rattle.cfdp_actions.specs.Store.{extended, overwritten}
use Rattle.cfdp_checksum.specs.Checksum.{weighed_from, checksum_at, checksum}
use Rattle.cfdp_checksum.proofs.ChecksumSteps.{offsets-add-up, only-word-offsets-count, zeros-add-nothing, parts-are-replaced}
use Rattle.cfdp_tree.proofs.OfRuns.OctetsInLists.{take_parts, slice_is}

pub extended_sum : (xs : List ℕ) (size : ℕ) → checksum (extended xs size) ≡ checksum xs
extended_sum xs size = zeros-add-nothing 0 (size - length xs) xs

pub joined_sum : (xs ys : List ℕ) (n : ℕ) → length xs ≡ n → checksum (xs ++ ys) ≡ (checksum xs + checksum_at n ys) % 2 ^ 32
joined_sum xs ys n long = offsets-add-up 0 xs ys ∙ ap (λ m. (checksum xs + m) % 2 ^ 32) (only-word-offsets-count (0 + length xs) n ys (omega (arith, long)))

module _ (xs : List ℕ) (at : ℕ) (part : List ℕ) (within : at + length part ≤ length xs) where
  there : List ℕ
  there = slice_range xs at (at + length part)

  there_long : length there ≡ length part
  unfolding there
  there_long = ap length (slice_is xs at (at + length part) (length part) refl) ∙ length-take-le (length part) (drop at xs) (omega (arith, length-drop at xs))

  was : take at xs ++ there ++ drop (at + length part) xs ≡ xs
  unfolding there
  was = ap (λ front. front ++ drop (at + length part) xs) (sym (take_parts xs at (at + length part) (omega arith))) ∙ take-append-drop (at + length part) xs

  pub replaced_sum : (checksum (overwritten xs at part) + checksum_at at (slice_range xs at (at + length part))) % 2 ^ 32
      ≡ (checksum xs + checksum_at at part) % 2 ^ 32
  unfolding there
  replaced_sum =
      let front : length (take at xs) ≡ at = length-take-le at xs (omega arith) in
      (λ k. (checksum (overwritten xs at part) + checksum_at (sym front k) there) % 2 ^ 32)
      ∙ parts-are-replaced (take at xs) there part (drop (at + length part) xs) (sym there_long)
      ∙ (λ k. (checksum (was k) + checksum_at (front k) part) % 2 ^ 32)

pub none_summed : (offset : ℕ) (xs : List ℕ) (n : ℕ) → n ≡ 0 → checksum_at offset (take n xs) ≡ 0
unfolding weighed_from
none_summed offset xs n none = ap (λ m. checksum_at offset (take m xs)) none

-- one part more
pub step_sum : (all : List ℕ) (at offset done count sum part : ℕ) → at + (done + count) ≤ length all → sum ≡ checksum_at offset (take done (drop at all))
    → part ≡ checksum_at (offset + done) (slice_range all (at + done) (at + done + count)) → (sum + part) % 2 ^ 32
    ≡ checksum_at offset (take (done + count) (drop at all))
step_sum all at offset done count sum part long sum_is part_is =
    let rest = drop at all in
    let front : length (take done rest) ≡ done = length-take-le done rest (omega (arith, length-drop at all, long)) in
    let there : slice_range all (at + done) (at + done + count) ≡ slice_range rest done (done + count) =
    slice_is all (at + done) (at + done + count) count refl ∙ ap (take count) (sym (drop-drop done at all))
    ∙ sym (slice_is rest done (done + count) count refl) in
    (λ k. (sum_is k + part_is k) % 2 ^ 32)
    ∙ (λ k. (checksum_at offset (take done rest) + checksum_at (offset + sym front k) (there k)) % 2 ^ 32)
    ∙ sym (offsets-add-up offset (take done rest) (slice_range rest done (done + count)))
    ∙ ap (checksum_at offset) (sym (take_parts rest done (done + count) (omega arith)))
