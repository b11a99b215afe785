use Rattle.std.proofs.Common.{Some, refl, sym, ap, ◌∙◌}
use Rattle.cfdp_arena.proofs.Made.{within, octets, wrote, wrote_arena}
use Rattle.cfdp_arena.proofs.arena.Arena.bytes_mut.Goals as goal

pub block_mut-requires : goal.block_mut-requires
block_mut-requires c = record { within = within c.self.invariant c.self.view_is c.number.ensures.same_number c.requires.live }

pub invariant_of-self-lent : goal.invariant_of-self-lent
invariant_of-self-lent c = wrote_arena c.self.invariant c.self.view_is c.number.ensures.same_number c.requires.live

pub returns : goal.returns
returns c = (
  (refl, wrote c.self.invariant c.self.view_is c.number.ensures.same_number c.requires.live),
  record {
    writes_back = tt;
    octets = octets c.self.invariant c.self.view_is c.number.ensures.same_number c.requires.live ∙ ap Some (sym c.block_mut.ensures.value);
    whole = c.block_mut.ensures.whole;
  },
)
