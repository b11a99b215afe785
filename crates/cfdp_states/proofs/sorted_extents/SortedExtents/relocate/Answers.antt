use Rattle.std.proofs.Common.{◌==◌, sym, ap, ◌∙◌, length}
use Rattle.std.proofs.lemmas.Bool.{eqb-true}
use Rattle.std.proofs.lemmas.List.{nil_from_length}
use Rattle.cfdp_paths.specs.PathMaps.{is_too_deep, tree_in}
use Rattle.cfdp_states.specs.code.Sketching.{total_weight}
use Rattle.cfdp_states.proofs.Counted.{kept_entries, moved_map, moved_counted, free_counted}
use Rattle.cfdp_states.proofs.sorted_extents.SortedExtents.relocate.Goals as goal

pub relocate-requires : goal.relocate-requires
relocate-requires c =
    ap (λ es. is_too_deep c.args.from.now c.args.to.now (tree_in c.args.from.now es))
    (kept_entries c.self.inside.entries c.self.inside.used c.args.self.now c.self.invariant c.self.view_is) ∙ c.requires

pub invariant_of-self-then-not-is_free : goal.invariant_of-self-then-not-is_free
invariant_of-self-then-not-is_free c =
    moved_counted c.args.from.now c.args.to.now c.self.inside.entries c.relocate.new.self c.self.inside.used _ c.self.invariant c.in_ok-relocate.ensures.ok
    (c.count-self-inside.ensures ∙ ap total_weight c.entries.ensures.entries)

pub invariant_of-self-else-not-is_free : goal.invariant_of-self-else-not-is_free
invariant_of-self-else-not-is_free c =
    let es = c.self.inside.entries in
    let free = nil_from_length (tree_in c.args.to.now es) (eqb-true _ 0 (ap (λ ys. length ys == 0) (sym c.tree.ensures)
    ∙ sym c.is_empty-is_free.ensures ∙ c.if-not-is_free.false)) in
    moved_counted c.args.from.now c.args.to.now es c.relocate.new.self c.self.inside.used _ c.self.invariant c.in_ok-relocate.ensures.ok
    (free_counted c.args.from.now c.args.to.now es c.self.inside.used c.self.invariant free ∙ ap total_weight (sym c.in_ok-relocate.ensures.ok))

pub returns-then-not-is_free-clause-ok : goal.returns-then-not-is_free-clause-ok
returns-then-not-is_free-clause-ok c =
    moved_map c.args.from.now c.args.to.now c.self.inside.entries c.relocate.new.self c.self.inside.used c.args.self.now c.self.invariant c.self.view_is
    c.in_ok-relocate.ensures.ok

pub returns-else-not-is_free-clause-ok : goal.returns-else-not-is_free-clause-ok
returns-else-not-is_free-clause-ok c =
    moved_map c.args.from.now c.args.to.now c.self.inside.entries c.relocate.new.self c.self.inside.used c.args.self.now c.self.invariant c.self.view_is
    c.in_ok-relocate.ensures.ok
