use Rattle.std.proofs.Common.{◌∙◌, ap, sym, refl, get_or, set}
use Rattle.std.proofs.lemmas.List.Edits.{map_over_more}
use Rattle.cfdp_paths.specs.Paths.{Path, rebased}
use Rattle.cfdp_paths.proofs.Moving.{not_moved_yet, all_moved, below_at, shallow_at}
use Rattle.cfdp_paths.proofs.relocating.rebase_all.Goals as goal

pub loop-entry-init : goal.loop-entry-init
loop-entry-init g c = refl

pub rebase-requires-clause-below : goal.rebase-requires-clause-below
rebase-requires-clause-below g c =
    let i = c.loop-entry.entry-index in
    let item = c.entry-item.result in
    let same = ap (λ es. get_or es i item) c.loop-entry.invariant ∙ not_moved_yet c.args.from.now c.args.to.now c.args.entries.now i item
    c.loop-entry-test.true in
    rw same (below_at c.args.from.now c.args.entries.now i item c.requires.below c.loop-entry-test.true)

pub rebase-requires-clause-room : goal.rebase-requires-clause-room
rebase-requires-clause-room g c =
    let i = c.loop-entry.entry-index in
    let item = c.entry-item.result in
    let same = ap (λ es. get_or es i item) c.loop-entry.invariant ∙ not_moved_yet c.args.from.now c.args.to.now c.args.entries.now i item
    c.loop-entry-test.true in
    rw same (shallow_at c.args.from.now c.args.to.now c.args.entries.now i item c.requires.depth c.loop-entry-test.true)

pub loop-entry-preserved : goal.loop-entry-preserved
loop-entry-preserved g c =
    let p = c.args.from.now in
    let q = c.args.to.now in
    let i = c.loop-entry.entry-index in
    let item = c.entry-item.result in
    let there = get_or c.loop-entry.entries i item in
    let moved : Path × g.row.T.Denot → Path × g.row.T.Denot = λ e. (rebased p q e.0, e.1) in
    ap (set c.loop-entry.entries i) (ap (λ x. (x, there.1)) c.rebase.ensures ∙ ap moved (sym c.entry-item.is))
    ∙ map_over_more moved c.args.entries.now c.loop-entry.entries i item c.loop-entry-test.true c.loop-entry.invariant c.entry-item.is

pub returns : goal.returns
returns g c = c.loop-entry.invariant ∙ all_moved c.args.from.now c.args.to.now c.args.entries.now c.loop-entry.entry-index c.loop-entry-test.false
