use Rattle.std.proofs.Common.{◌≡◌, ◌+◌, ◌-◌, ◌<◌, ℕ, List, [], length, replicate, length-append, get_or, sym, ap, ◌∙◌, arith}
use Rattle.std.proofs.lemmas.List.{length-replicate}
use Rattle.cfdp_actions.specs.Filestore.{blocks_of}
use Rattle.cfdp_actions.specs.Store.{extended}
use Rattle.cfdp_actions.specs.Listed.{vector_octets}
use Rattle.cfdp_actions.proofs.RowLaws.{blocks_of-mono}
use Rattle.cfdp_actions.proofs.BlocksLaws.{blocks_of-bound}
use Rattle.cfdp_actions.proofs.StagedLaws.{octets_of-at}
use Rattle.cfdp_actions.proofs.StoreLaws.{seen_staged, seen_free, staged_kept, staged_small, lists-each}
use Rattle.cfdp_actions.proofs.list_store.ListStoreFilestore.stage_extend.Goals as goal

pub blocks_of-old-requires : goal.blocks_of-old-requires
blocks_of-old-requires c =
    let v = c.index.result.now in
    let here : c.from-slot.result < length c.self.inside.staged.items = omega (arith, c.from-slot.ensures, c.requires.slot, c.self.invariant.slots) in
    omega (
      arith,
      c.len.ensures,
      v.ok.0,
      ap (λ (xs : List ℕ). length xs) (octets_of-at c.self.inside.staged.items c.from-slot.result v here c.index.ensures),
      staged_small _ _ _ _ c.self.invariant c.from-slot.result,
    )

pub blocks_of-requires : goal.blocks_of-requires
blocks_of-requires c =
    let list = seen_staged _ _ _ _ c.self.invariant _ c.self.view_is c.args.slot in
    let each = lists-each (vector_octets c.self.inside.staged.items) c.args.slot in
    let few = blocks_of-bound c.args.size (omega (
      arith,
      c.requires.room,
      seen_free _ _ _ _ c.self.invariant _ c.self.view_is,
      each,
      ap (λ (xs : List ℕ). blocks_of (length xs)) list,
      c.self.invariant.small,
    )) in
    omega (arith, few)

pub overflow_sub-ticks : goal.overflow_sub-ticks
overflow_sub-ticks c =
    let v = c.index.result.now in
    let here : c.from-slot.result < length c.self.inside.staged.items = omega (arith, c.from-slot.ensures, c.requires.slot, c.self.invariant.slots) in
    let list = ap (λ (xs : List ℕ). length xs) (seen_staged _ _ _ _ c.self.invariant _ c.self.view_is c.args.slot
    ∙ ap (λ k. get_or (vector_octets c.self.inside.staged.items) k []) (sym c.from-slot.ensures)
    ∙ octets_of-at c.self.inside.staged.items c.from-slot.result v here c.index.ensures) in
    omega (
      arith,
      c.blocks_of.ensures,
      c.blocks_of-old.ensures,
      blocks_of-mono c.len.result c.args.size
          (omega (arith, c.len.ensures, v.ok.0, list, c.requires.longer)),
    )

pub invariant_of-self-2 : goal.invariant_of-self-2
invariant_of-self-2 c =
    let slot = c.from-slot.result in
    let staged = c.self.inside.staged.items in
    let v = c.index.result.now in
    let here : slot < length staged = omega (arith, c.from-slot.ensures, c.requires.slot, c.self.invariant.slots) in
    let old = get_or (vector_octets staged) slot [] in
    let list = ap (λ (xs : List ℕ). length xs) (seen_staged _ _ _ _ c.self.invariant _ c.self.view_is c.args.slot
    ∙ ap (λ k. get_or (vector_octets staged) k []) (sym c.from-slot.ensures)) in
    let before : c.len.result ≡ length old = omega (
      arith,
      c.len.ensures,
      v.ok.0,
      ap (λ (xs : List ℕ). length xs) (octets_of-at staged slot v here c.index.ensures),
    ) in
    let long : length (extended old c.args.size) ≡ c.args.size = omega (
      arith,
      length-append old (replicate (c.args.size - length old) 0),
      length-replicate {A = ℕ} (c.args.size - length old) 0,
      list,
      c.requires.longer,
    ) in
    let more = blocks_of-mono (length old) c.args.size (omega (arith, list, c.requires.longer)) in
    staged_kept _ _ _ _ c.self.invariant c.extend.new.staged.items slot _ c.in_ok-extend.ensures.ok (c.self.inside.used
    + (c.blocks_of.result - c.blocks_of-old.result)) c.in_ok-extend.ensures.slots (omega (arith, c.from-slot.ensures, c.requires.slot))
    (omega (arith, c.blocks_of.ensures, c.blocks_of-old.ensures, ap blocks_of before, ap blocks_of long, more))
    (omega (
      arith,
      c.blocks_of.ensures,
      c.blocks_of-old.ensures,
      ap blocks_of before,
      ap blocks_of list,
      c.requires.room,
      seen_free _ _ _ _ c.self.invariant _ c.self.view_is,
    ))
