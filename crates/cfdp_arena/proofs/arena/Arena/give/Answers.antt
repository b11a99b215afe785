use Rattle.std.proofs.Common.{arith}
use Rattle.cfdp_arena.proofs.Made.{within, vacant, gave, gave_arena}
use Rattle.cfdp_arena.proofs.arena.Arena.give.Goals as goal

pub block_mut-requires : goal.block_mut-requires
block_mut-requires c = record { within = within c.self.invariant c.self.view_is c.number-number.ensures.same_number c.requires.live }

pub overflow_add-self : goal.overflow_add-self
overflow_add-self c = omega (arith, vacant c.self.invariant c.self.view_is c.number-number.ensures.same_number c.requires.live, c.self.invariant.list.small)

pub invariant_of-self : goal.invariant_of-self
invariant_of-self c = gave_arena c.self.invariant c.self.view_is c.number-number.ensures.same_number c.requires.live _ c.link_to.ensures.linked (omega arith)

pub returns : goal.returns
returns c = record { freed = gave c.self.invariant c.self.view_is c.number-number.ensures.same_number c.requires.live _ c.link_to.ensures.linked (omega arith) }
