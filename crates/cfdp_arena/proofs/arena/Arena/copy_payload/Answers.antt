use Rattle.std.proofs.Common.{◌≡◌, [], get_or, sym, ap, ◌∙◌, subst}
use Rattle.std.specs.Prelude.{unwrap_or}
use Rattle.cfdp_arena.specs.Blocks.{copied}
use Rattle.cfdp_arena.specs.Arena.{octets_of, with_block}
use Rattle.cfdp_arena.specs.code.FreeList.{IsArena, whole_view}
use Rattle.cfdp_arena.proofs.Made.{within, octets, wrote, wrote_arena}
use Rattle.cfdp_arena.proofs.arena.Arena.copy_payload.Goals as goal

pub copy_payload-requires : goal.copy_payload-requires
copy_payload-requires c = record {
  small = c.self.invariant.list.small;
  from = within c.self.invariant c.self.view_is c.number-from.ensures.same_number c.requires.from_live;
  to = within c.self.invariant c.self.view_is c.number-to.ensures.same_number c.requires.to_live;
  from_within = c.requires.from_within;
  to_within = c.requires.to_within;
}

pub invariant_of-self : goal.invariant_of-self
invariant_of-self c =
    let old = c.self.inside in let new = c.copy_payload.new.self in
    subst (λ room. IsArena new.blocks old.listed old.head old.made old.capacity room) (sym c.copy_payload.ensures.room)
    (subst (λ blocks. IsArena blocks old.listed old.head old.made old.capacity old.region.room) (sym c.copy_payload.ensures.blocks)
    (wrote_arena c.self.invariant c.self.view_is c.number-to.ensures.same_number c.requires.to_live _))

pub returns : goal.returns
returns c =
    let is = c.self.invariant in let old = c.self.inside in let blocks = old.region.blocks in
    let source : get_or blocks c.number-from.result [] ≡ octets_of c.args.self.now c.args.from =
    ap (λ o. unwrap_or o []) (sym (octets is c.self.view_is c.number-from.ensures.same_number c.requires.from_live)) in
    let target : get_or blocks c.number-to.result [] ≡ octets_of c.args.self.now c.args.to =
    ap (λ o. unwrap_or o []) (sym (octets is c.self.view_is c.number-to.ensures.same_number c.requires.to_live)) in
    record {
      target = ap (λ after. whole_view after old.listed old.head old.capacity) c.copy_payload.ensures.blocks
          ∙ wrote is c.self.view_is c.number-to.ensures.same_number c.requires.to_live _
          ∙ (λ k. with_block c.args.self.now c.args.to (copied (source k) c.args.from_at (target k) c.args.to_at c.args.len));
    }
