use Rattle.std.proofs.Common.{arith}
use Rattle.cfdp_arena.proofs.Made.{length-value, live_count-value, free-value}
use Rattle.cfdp_arena.proofs.arena.Arena.free.Goals as goal

pub overflow_add-result : goal.overflow_add-result
overflow_add-result c = omega (arith, live_count-value c.self.invariant c.self.view_is, c.self.invariant.within, c.self.invariant.most)

pub returns-clause-free : goal.returns-clause-free
returns-clause-free c = free-value c.self.invariant c.self.view_is

pub returns-clause-within : goal.returns-clause-within
returns-clause-within c = omega (arith, live_count-value c.self.invariant c.self.view_is, length-value c.self.invariant c.self.view_is, c.self.invariant.within)

pub returns-clause-capacity : goal.returns-clause-capacity
returns-clause-capacity c =
    let long = length-value c.self.invariant c.self.view_is in
    (omega (arith, long, c.self.invariant.some), omega (arith, long, c.self.invariant.most))
