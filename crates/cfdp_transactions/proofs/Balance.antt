-- Blocks spent, an integer, against the blocks granted.
use Rattle.std.proofs.Common.{◌≡◌, ℕ, ◌+◌, ◌≤◌, arith}
use Rattle.std.specs.Prelude.{ℤ, pos, negsuc, ◌-ℤ◌, ◌≤ℤ◌}
use Rattle.std.proofs.lemmas.Int.{ints}
use Rattle.cfdp_transactions.specs.Entry.{spend, blocks_left}

pub left_is : (g : ℕ) (s : ℤ) → s ≤ℤ pos g → pos (blocks_left g s) ≡ pos g -ℤ s
left_is g (pos n) h = omega (arith, ints)
left_is g (negsuc n) h = omega (arith, ints)

pub spend_within : (g : ℕ) (s : ℤ) (taken given : ℕ) → s ≤ℤ pos g → taken ≤ blocks_left g s + given → spend s taken given ≤ℤ pos g
spend_within g s taken given h room = let l = left_is g s h in omega (arith, ints)

pub left-spend : (g : ℕ) (s : ℤ) (taken given : ℕ) → s ≤ℤ pos g → taken ≤ blocks_left g s + given → blocks_left g (spend s taken given) + taken
    ≡ blocks_left g s + given
left-spend g s taken given h room =
    let l = left_is g s h in
    let r = left_is g (spend s taken given) (spend_within g s taken given h room) in
    omega (arith, ints)

pub fresh_within : (g : ℕ) → pos 0 ≤ℤ pos g
fresh_within g = omega (arith, ints)

-- of what the filestore grows by -----------------------------------------------------

pub spend-even : (s : ℤ) (n : ℕ) → s ≡ spend s n n
spend-even s n = omega (arith, ints)

-- taken and given back are what the blocks in use grew by
pub spend-grown : (s : ℤ) (taken given before now : ℕ) → now + given ≡ before + taken → spend s taken given ≡ spend s now before
spend-grown s taken given before now h = omega (arith, ints)

pub spend-then : (s t u : ℤ) (a b c : ℕ) → t ≡ spend s b a → u ≡ spend t c b → u ≡ spend s c a
spend-then s t u a b c first second = omega (arith, ints)

-- the free blocks shrank by what was taken and not given back
pub spend-free : (s : ℤ) (before later taken given : ℕ) → before + given ≡ later + taken → spend s before later ≡ spend s taken given
spend-free s before later taken given h = omega (arith, ints)
