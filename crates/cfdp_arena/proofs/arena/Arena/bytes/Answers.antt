use Rattle.std.proofs.Common.{Some, sym, ap, ◌∙◌}
use Rattle.cfdp_arena.proofs.Made.{within, octets}
use Rattle.cfdp_arena.proofs.arena.Arena.bytes.Goals as goal

pub block-requires : goal.block-requires
block-requires c = record { within = within c.self.invariant c.self.view_is c.number.ensures.same_number c.requires.live }

pub returns : goal.returns
returns c = record {
  octets = octets c.self.invariant c.self.view_is c.number.ensures.same_number c.requires.live ∙ ap Some (sym c.block.ensures.value);
  whole = c.block.ensures.whole;
}
