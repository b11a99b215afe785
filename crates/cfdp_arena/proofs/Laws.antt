-- What callers may use of the words of `specs/Arena.antt`.
--     octets_at-with_..   a block after a block was set
--     length-..           the capacity stays
--     live_count-..       how many blocks are live after that, or where the same are live
--     free_count-..       how many are free after that
--     ..-vacated          the same where several were freed
use Rattle.std.proofs.Common.{◌≡◌, ◌≢◌, ℕ, suc, zero, ◌+◌, ◌<◌, ◌≤◌, List, [], ◌∷◌, length, Some, None, is_some, refl, sym, ap, subst, arith, length-set}
use Rattle.std.proofs.lemmas.List.{get_or-set_same, get_or-set_other}
use Rattle.std.specs.Prelude.{All, AllPairs, IsSome}
use Rattle.cfdp_arena.specs.Arena.{Blocks, octets_at, IsLive, live_count, free_count, with_block, without_block}
use Rattle.cfdp_arena.specs.FreeList.{vacated}
use Rattle.cfdp_arena.proofs.Chains.{get_or-vacated}
use Rattle.std.proofs.lemmas.List.Elements.{All-tail}
use Rattle.cfdp_arena.proofs.GivenChains.{absent_from, first_absent, rest_once}

pub live_count-le : (arena : Blocks) → live_count arena ≤ length arena
live_count-le [] = omega arith
live_count-le (Some octets ∷ rest) = omega (arith, live_count-le rest)
live_count-le (None ∷ rest) = omega (arith, live_count-le rest)

pub live_count-taken : (arena : Blocks) (block : ℕ) (octets : List ℕ) → block < length arena → octets_at arena block ≡ None →
    live_count (with_block arena block octets) ≡ live_count arena + 1
live_count-taken [] block octets within free = absurd (omega arith)
live_count-taken (Some x ∷ rest) zero octets within free = cc
live_count-taken (None ∷ rest) zero octets within free = refl
live_count-taken (Some x ∷ rest) (suc block) octets within free = omega (arith, live_count-taken rest block octets (omega arith) free)
live_count-taken (None ∷ rest) (suc block) octets within free = live_count-taken rest block octets (omega arith) free

pub live_count-written : (arena : Blocks) (block : ℕ) (octets : List ℕ) → IsLive arena block → live_count (with_block arena block octets) ≡ live_count arena
live_count-written [] block octets live = refl
live_count-written (Some x ∷ rest) zero octets live = refl
live_count-written (None ∷ rest) zero octets live = cc
live_count-written (Some x ∷ rest) (suc block) octets live = ap (λ n. n + 1) (live_count-written rest block octets live)
live_count-written (None ∷ rest) (suc block) octets live = live_count-written rest block octets live

pub live_count-given : (arena : Blocks) (block : ℕ) → IsLive arena block → live_count (without_block arena block) + 1 ≡ live_count arena
live_count-given [] block live = cc
live_count-given (Some x ∷ rest) zero live = refl
live_count-given (None ∷ rest) zero live = cc
live_count-given (Some x ∷ rest) (suc block) live = omega (arith, live_count-given rest block live)
live_count-given (None ∷ rest) (suc block) live = live_count-given rest block live

-- the same blocks are live
pub live_count-same : (a b : Blocks) → length a ≡ length b → ((i : ℕ) → is_some (octets_at a i) ≡ is_some (octets_at b i)) → live_count a ≡ live_count b
live_count-same [] [] long same = refl
live_count-same [] (y ∷ ys) long same = absurd (omega arith)
live_count-same (x ∷ xs) [] long same = absurd (omega arith)
live_count-same (Some x ∷ xs) (Some y ∷ ys) long same = omega (arith, live_count-same xs ys (omega arith) (λ i. same (suc i)))
live_count-same (None ∷ xs) (None ∷ ys) long same = live_count-same xs ys (omega arith) (λ i. same (suc i))
live_count-same (Some x ∷ xs) (None ∷ ys) long same = (let e = same 0 in cc)
live_count-same (None ∷ xs) (Some y ∷ ys) long same = (let e = same 0 in cc)

module _ (arena : Blocks) (block : ℕ) (octets : List ℕ) where
  pub octets_at-with_same : block < length arena → octets_at (with_block arena block octets) block ≡ Some octets
  octets_at-with_same within = get_or-set_same arena block (Some octets) None within

  pub octets_at-with_other : (other : ℕ) → other ≢ block → octets_at (with_block arena block octets) other ≡ octets_at arena other
  octets_at-with_other other apart = get_or-set_other arena block other (Some octets) None apart

  pub length-with : length (with_block arena block octets) ≡ length arena
  length-with = length-set arena block (Some octets)

  -- a block that was free
  pub free_count-taken : block < length arena → octets_at arena block ≡ None → free_count (with_block arena block octets) + 1 ≡ free_count arena
  free_count-taken within free =
      omega (arith, length-with, live_count-taken arena block octets within free, live_count-le (with_block arena block octets))

  -- a block that was live
  pub free_count-written : IsLive arena block → free_count (with_block arena block octets) ≡ free_count arena
  free_count-written live = omega (arith, length-with, live_count-written arena block octets live)

module _ (arena : Blocks) (block : ℕ) where
  pub length-without : length (without_block arena block) ≡ length arena
  length-without = length-set arena block None

  pub free_count-given : IsLive arena block → free_count (without_block arena block) ≡ free_count arena + 1
  free_count-given live = omega (arith, length-without, live_count-given arena block live, live_count-le arena, live_count-le (without_block arena block))

-- a block that is none of those that were freed
pub octets_at-vacated_other : (arena : Blocks) (xs : List ℕ) (block : ℕ) → All (λ x. block ≢ x) xs → octets_at (vacated xs arena) block ≡ octets_at arena block
octets_at-vacated_other arena xs block apart = get_or-vacated xs arena block (absent_from block xs apart)

pub free_count-vacated : (arena : Blocks) (xs : List ℕ) → All (IsLive arena) xs → AllPairs (λ a b. a ≢ b) xs → free_count (vacated xs arena) ≡ free_count arena
    + length xs
free_count-vacated arena [] live once = omega arith
free_count-vacated arena (x ∷ xs) live once =
    let there : IsLive (vacated xs arena) x = subst IsSome (sym (get_or-vacated xs arena x (first_absent x xs once))) (live 0 0 (omega arith)) in
    omega (arith, free_count-given (vacated xs arena) x there, free_count-vacated arena xs (All-tail (IsLive arena) x xs live) (rest_once x xs once))
