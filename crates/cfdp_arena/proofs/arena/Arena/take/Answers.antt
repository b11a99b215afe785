use Rattle.std.proofs.Common.{◌≡◌, ◌+◌, ◌-◌, ◌<◌, suc, refl, sym, ap, ◌∙◌, subst, arith}
use Rattle.cfdp_arena.specs.Arena.{octets_at, with_block}
use Rattle.cfdp_arena.specs.Blocks.{blank_block}
use Rattle.cfdp_arena.specs.FreeList.{link}
use Rattle.cfdp_arena.specs.code.FreeList.{whole_view, IsArena}
use Rattle.cfdp_arena.proofs.Made.{length-value, free-value, first_within, first_free, took, took_arena, next_free, made_arena, made_view}
use Rattle.cfdp_arena.proofs.arena.Arena.take.Goals as goal

-- every block is made and live
pub returns-then-number-self-clause-none : goal.returns-then-number-self-clause-none
returns-then-number-self-clause-none c = let is = free-value c.self.invariant c.self.view_is in (λ _. omega (arith, is), λ _. cc)

-- the next block is made
pub invariant_of-self : goal.invariant_of-self
invariant_of-self c =
    let old = c.self.inside in let new = c.append_blank.new.self in
    let rest : old.made < old.capacity = omega arith in
    subst (λ room. IsArena new.blocks old.listed old.head (old.made + 1) old.capacity room) (sym c.append_blank.ensures.room)
    (subst (λ blocks. IsArena blocks old.listed old.head (old.made + 1) old.capacity old.region.room) (sym c.append_blank.ensures.blocks)
    (made_arena c.self.invariant c.self.view_is (omega arith) rest blank_block refl))

pub returns-then-self-eq0-clause-none : goal.returns-then-self-eq0-clause-none
returns-then-self-eq0-clause-none c = let is = free-value c.self.invariant c.self.view_is in (λ e. cc, λ e. absurd (omega (arith, is)))

pub returns-then-self-eq0-clause-was_free : goal.returns-then-self-eq0-clause-was_free
returns-then-self-eq0-clause-was_free c =
    let rest : c.self.inside.made < c.self.inside.capacity = omega arith in
    ap (octets_at c.args.self.now) c.of_number.ensures.same_number ∙ next_free c.self.invariant c.self.view_is (omega arith) rest blank_block

pub returns-then-self-eq0-clause-within : goal.returns-then-self-eq0-clause-within
returns-then-self-eq0-clause-within c = omega (arith, c.of_number.ensures.same_number, length-value c.self.invariant c.self.view_is)

pub returns-then-self-eq0-clause-zeros : goal.returns-then-self-eq0-clause-zeros
returns-then-self-eq0-clause-zeros c =
    let old = c.self.inside in
    let rest : old.made < old.capacity = omega arith in
    ap (λ blocks. whole_view blocks old.listed old.head old.capacity) c.append_blank.ensures.blocks
    ∙ made_view c.self.invariant c.self.view_is (omega arith) rest blank_block
    ∙ ap (λ block. with_block c.args.self.now block blank_block) (sym c.of_number.ensures.same_number)

-- the first block of the list is taken from it
pub block_mut-block-requires : goal.block_mut-block-requires
block_mut-block-requires c =
    let more : c.self.inside.listed ≡ suc (c.self.inside.listed - 1) = omega arith in
    record { within = first_within c.self.invariant c.self.view_is more refl }

pub invariant_of-self-2 : goal.invariant_of-self-2
invariant_of-self-2 c =
    took_arena c.self.invariant c.self.view_is (omega arith)
    (c.next_free-next.ensures.value ∙ ap link c.block_mut-block.ensures.value) _ c.next_free-next.ensures.small

pub returns-clause-none : goal.returns-clause-none
returns-clause-none c = let is = free-value c.self.invariant c.self.view_is in (λ e. cc, λ e. absurd (omega (arith, is)))

pub returns-clause-was_free : goal.returns-clause-was_free
returns-clause-was_free c =
    let more : c.self.inside.listed ≡ suc (c.self.inside.listed - 1) = omega arith in
    ap (octets_at c.args.self.now) c.of_number-2.ensures.same_number ∙ first_free c.self.invariant c.self.view_is more refl

pub returns-clause-within : goal.returns-clause-within
returns-clause-within c =
    let more : c.self.inside.listed ≡ suc (c.self.inside.listed - 1) = omega arith in
    let first = first_within c.self.invariant c.self.view_is more refl in
    omega (arith, c.of_number-2.ensures.same_number, first, length-value c.self.invariant c.self.view_is, c.self.invariant.count, c.self.invariant.within)

pub returns-clause-zeros : goal.returns-clause-zeros
returns-clause-zeros c =
    took c.self.invariant c.self.view_is (omega arith) (c.next_free-next.ensures.value ∙ ap link c.block_mut-block.ensures.value) _
    ∙ (λ k. with_block c.args.self.now (sym c.of_number-2.ensures.same_number k) (c.blank.ensures.zeros k))
