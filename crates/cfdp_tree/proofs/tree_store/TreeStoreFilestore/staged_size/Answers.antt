use Rattle.std.proofs.Common.{List, ℕ, length, sym, ap, ◌∙◌, arith}
use Rattle.cfdp_actions.specs.Filestore.{staged_in}
use Rattle.cfdp_tree.proofs.OfRuns.ContentsLaws.{length-contents}
use Rattle.cfdp_tree.proofs.OfStore.SeenLaws.{seen_staged, slot_filled, staged_small}
use Rattle.cfdp_tree.proofs.tree_store.TreeStoreFilestore.staged_size.Goals as goal

pub returns-clause-value : goal.returns-clause-value
returns-clause-value c =
    let slot = c.index.result.now in let i = c.from.result in let F = c.args.self.now.filestore in
    let filled = slot_filled _ _ _ c.self.invariant.store _ c.self.view_is i (omega (arith, c.from.ensures, c.requires)) slot c.index.ensures in
    let octets = seen_staged _ _ _ c.self.invariant.store _ c.self.view_is i (omega (arith, c.from.ensures, c.requires)) slot c.index.ensures in
    c.from-2.ensures
    ∙ sym (length-contents c.self.inside.arena slot.contents filled)
    ∙ sym (ap (λ (xs : List ℕ). length xs) octets)
    ∙ ap (λ k. length (staged_in F k)) c.from.ensures

pub returns-clause-within : goal.returns-clause-within
returns-clause-within c = omega (arith, returns-clause-value c, staged_small _ _ _ c.self.invariant.store _ c.self.view_is c.args.slot)
