use Rattle.std.proofs.Common.{◌+◌, ◌<◌, sym, ap, ◌∙◌, subst, arith, set}
use Rattle.cfdp_arena.specs.code.FreeList.{IsArena, whole_view}
use Rattle.cfdp_arena.proofs.Made.{within, last_live, all_room, gave_all, gave_all_arena}
use Rattle.cfdp_arena.proofs.arena.Arena.give_chain.Goals as goal

pub block_mut-requires : goal.block_mut-requires
block_mut-requires c =
    let some : 0 < c.args.count = omega arith in
    record {
      within = within c.self.invariant c.self.view_is c.number.ensures.same_number
          (last_live c.self.invariant c.self.view_is c.args.count c.args.first c.args.last some c.requires.live c.requires.once (c.requires.last some));
    }

pub overflow_add-self : goal.overflow_add-self
overflow_add-self c =
    let some : 0 < c.args.count = omega arith in
    omega (
      arith,
      all_room c.self.invariant c.self.view_is c.args.count c.args.first c.args.last some c.requires.live c.requires.once (c.requires.last some),
      c.self.invariant.list.small,
    )

pub invariant_of-self : goal.invariant_of-self
invariant_of-self c =
    let some : 0 < c.args.count = omega arith in let old = c.self.inside in
    subst (λ first. IsArena (set old.region.blocks c.number.result c.link_to.new.block) (old.listed + c.args.count) first old.made old.capacity old.region.room)
    (sym c.number-self-inside.ensures.same_number)
    (gave_all_arena c.self.invariant c.self.view_is c.args.count c.args.first c.args.last some c.requires.live c.requires.once
    (c.requires.last some) c.number.ensures.same_number _ c.link_to.ensures.linked)

pub returns : goal.returns
returns c =
    let some : 0 < c.args.count = omega arith in let old = c.self.inside in
    record {
      freed = ap (λ first. whole_view (set old.region.blocks c.number.result c.link_to.new.block) (old.listed + c.args.count) first old.capacity)
          c.number-self-inside.ensures.same_number
          ∙ gave_all c.self.invariant c.self.view_is c.args.count c.args.first c.args.last some c.requires.live c.requires.once
          (c.requires.last some) c.number.ensures.same_number _ c.link_to.ensures.linked;
    }
