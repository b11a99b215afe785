use Rattle.cfdp_arena.proofs.Made.{new_arena, new_view}
use Rattle.cfdp_arena.proofs.arena.Arena.new.Goals as goal

pub invariant_of-arena : goal.invariant_of-arena
invariant_of-arena c = new_arena c.in_ok-region.ensures.empty c.args.blocks _ c.in_ok-region.ensures.room c.requires.some c.requires.at_most

pub returns : goal.returns
returns c = record { all_free = new_view c.in_ok-region.ensures.empty c.args.blocks }
