use Rattle.std.proofs.Common.{◌+◌, List, ℕ, length, sym, ap, ◌∙◌, subst, arith}
use Rattle.std.specs.Prelude.{slice_range}
use Rattle.cfdp_actions.specs.Filestore.{staged_in}
use Rattle.cfdp_tree.specs.code.Ways.{HasWays}
use Rattle.cfdp_tree.proofs.OfRuns.ContentsLaws.{length-contents}
use Rattle.cfdp_tree.proofs.OfStore.SeenLaws.{seen_staged, slot_filled, slot_ways, staged_small}
use Rattle.cfdp_tree.proofs.tree_store.TreeStoreFilestore.read_staged.Goals as goal

pub overflow_cast-at : goal.overflow_cast-at
overflow_cast-at c = omega (arith, c.requires.range, staged_small _ _ _ c.self.invariant.store _ c.self.view_is c.args.slot)

pub get-requires-clause-filled : goal.get-requires-clause-filled
get-requires-clause-filled c = slot_filled _ _ _ c.self.invariant.store _ c.self.view_is c.from.result
    (omega (arith, c.from.ensures, c.requires.slot)) c.index-slot.result.now c.index-slot.ensures

pub get-requires-clause-ways : goal.get-requires-clause-ways
get-requires-clause-ways c =
    let slot = c.index-slot.result.now in
    subst (λ ws. HasWays c.self.inside.arena ws slot.contents.run) (sym c.deref.ensures.value)
    (slot_ways _ _ _ c.self.invariant.store _ c.self.view_is c.from.result (omega (arith, c.from.ensures, c.requires.slot)) slot c.index-slot.ensures)

pub get-requires-clause-range : goal.get-requires-clause-range
get-requires-clause-range c =
    let slot = c.index-slot.result.now in let i = c.from.result in let F = c.args.self.now.filestore in
    let filled = slot_filled _ _ _ c.self.invariant.store _ c.self.view_is i (omega (arith, c.from.ensures, c.requires.slot)) slot c.index-slot.ensures in
    let octets = seen_staged _ _ _ c.self.invariant.store _ c.self.view_is i (omega (arith, c.from.ensures, c.requires.slot)) slot c.index-slot.ensures in
    omega (
      arith,
      length-contents c.self.inside.arena slot.contents filled,
      ap (λ (xs : List ℕ). length xs) octets,
      ap (λ k. length (staged_in F k)) c.from.ensures,
      c.requires.range,
    )

pub returns : goal.returns
returns c =
    let slot = c.index-slot.result.now in let i = c.from.result in let F = c.args.self.now.filestore in
    let octets = seen_staged _ _ _ c.self.invariant.store _ c.self.view_is i (omega (arith, c.from.ensures, c.requires.slot)) slot c.index-slot.ensures in
    c.get.ensures ∙ ap (λ (xs : List ℕ). slice_range xs c.args.at (c.args.at + length c.args.buffer.now)) (sym octets ∙ ap (staged_in F) c.from.ensures)
