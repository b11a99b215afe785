use Rattle.std.proofs.Common.{sym, ap, ◌∙◌, arith}
use Rattle.cfdp_paths.specs.Paths.{is_at_or_below}
use Rattle.cfdp_paths.specs.PathMaps.{tree_in, is_too_deep}
use Rattle.cfdp_actions.specs.code.Listed.{shown_entries, blocks_in}
use Rattle.cfdp_actions.proofs.ShownLaws.{shown_where, shown_deep, shown_below, shown_relocated}
use Rattle.cfdp_actions.proofs.StoreLaws.{seen_node, seen_tree, seen_moved, moved_kept, moved_fits, moved_counted}
use Rattle.cfdp_actions.proofs.list_store.ListStoreFilestore.rename.Goals as goal

pub relocate-requires : goal.relocate-requires
relocate-requires c =
    let p = c.args.from.now in
    let q = c.args.to.now in
    let es = c.self.inside.entries in
    shown_deep p q (tree_in p es) ∙ ap (is_too_deep p q) (shown_where (λ x. is_at_or_below x p) es
    ∙ sym (seen_tree _ _ _ _ c.self.invariant _ c.self.view_is p)) ∙ c.requires.depth

pub blocks_in-self-inside-requires : goal.blocks_in-self-inside-requires
blocks_in-self-inside-requires c =
    let p = c.args.from.now in
    let q = c.args.to.now in
    let moved = ap shown_entries c.in_ok-relocate.ensures.ok ∙ shown_relocated p q c.self.inside.entries in
    omega (
      arith,
      moved_fits _ _ _ _ c.self.invariant c.relocate.new.self p q moved,
      c.self.invariant.small,
      ap (λ es. blocks_in es c.deref.result.now) c.entries.ensures.entries,
      ap (blocks_in c.relocate.new.self) c.deref.ensures.value,
    )

pub invariant_of-self-then-overwrites : goal.invariant_of-self-then-overwrites
invariant_of-self-then-overwrites c =
    let p = c.args.from.now in
    let q = c.args.to.now in
    let moved = ap shown_entries c.in_ok-relocate.ensures.ok ∙ shown_relocated p q c.self.inside.entries in
    moved_kept _ _ _ _ c.self.invariant c.relocate.new.self p q moved c.blocks_in-self-inside.result
    (c.blocks_in-self-inside.ensures ∙ ap (λ es. blocks_in es c.deref.result.now) c.entries.ensures.entries
    ∙ ap (blocks_in c.relocate.new.self) c.deref.ensures.value)

pub invariant_of-self-else-overwrites : goal.invariant_of-self-else-overwrites
invariant_of-self-else-overwrites c =
    let p = c.args.from.now in
    let q = c.args.to.now in
    let es = c.self.inside.entries in
    let moved = ap shown_entries c.in_ok-relocate.ensures.ok ∙ shown_relocated p q es in
    let absent = sym (seen_node _ _ _ _ c.self.invariant _ c.self.view_is q) ∙ c.requires.absent in
    let none = sym (shown_below q es) ∙ sym c.has_below-overwrites.ensures ∙ c.if-overwrites.false in
    moved_kept _ _ _ _ c.self.invariant c.relocate.new.self p q moved c.self.inside.used
    (moved_counted _ _ _ _ c.self.invariant c.relocate.new.self p q moved absent none)

pub returns-then-overwrites-clause-moved : goal.returns-then-overwrites-clause-moved
returns-then-overwrites-clause-moved c =
    seen_moved _ _ _ _ c.self.invariant _ c.self.view_is c.relocate.new.self c.args.from.now c.args.to.now (ap shown_entries c.in_ok-relocate.ensures.ok
    ∙ shown_relocated c.args.from.now c.args.to.now c.self.inside.entries)

pub returns-else-overwrites-clause-moved : goal.returns-else-overwrites-clause-moved
returns-else-overwrites-clause-moved c =
    seen_moved _ _ _ _ c.self.invariant _ c.self.view_is c.relocate.new.self c.args.from.now c.args.to.now (ap shown_entries c.in_ok-relocate.ensures.ok
    ∙ shown_relocated c.args.from.now c.args.to.now c.self.inside.entries)
