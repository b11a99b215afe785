use Rattle.std.proofs.Common.{ap, not, refl, ◌∙◌, arith, length}
use Rattle.std.specs.FinMap.{is_sorted}
use Rattle.std.specs.List.{list_all}
use Rattle.cfdp_paths.specs.Paths.{path_cmp, is_at_or_below}
use Rattle.cfdp_paths.specs.PathMaps.{rest_in, tree_in, puts, is_too_deep}
use Rattle.cfdp_paths.proofs.InOrder.{ordered-where}
use Rattle.cfdp_paths.proofs.Moving.{tree_of, rest_of, tree_all, moved_all, moved_is, tree_ordered, length-parts}
use Rattle.cfdp_paths.proofs.relocating.relocate.Goals as goal

pub all_may_stay-requires : goal.all_may_stay-requires
all_may_stay-requires g c =
    let es = c.args.entries.now.items in
    let p = c.args.from.now in
    ap (list_all (λ e. is_at_or_below e.0 p)) (tree_of p es c.deref.result.now c.deref-2.result.now c.piece-start.result.0 c.piece-start.result.1
    c.requires.ordered c.deref.ensures.value c.deref-2.ensures.value c.piece-start.ensures)
    ∙ tree_all p es

pub new_paths-requires-clause-tree : goal.new_paths-requires-clause-tree
new_paths-requires-clause-tree g c =
    let es = c.args.entries.now.items in
    let p = c.args.from.now in
    ap (list_all (λ e. is_at_or_below e.0 p)) (tree_of p es c.deref.result.now c.deref-3.result.now c.piece-start.result.0 c.piece-start.result.1
    c.requires.ordered c.deref.ensures.value c.deref-3.ensures.value c.piece-start.ensures)
    ∙ tree_all p es

pub new_paths-requires-clause-depth : goal.new_paths-requires-clause-depth
new_paths-requires-clause-depth g c =
    let es = c.args.entries.now.items in
    let p = c.args.from.now in
    ap (is_too_deep p c.args.to.now) (tree_of p es c.deref.result.now c.deref-3.result.now c.piece-start.result.0 c.piece-start.result.1 c.requires.ordered
    c.deref.ensures.value c.deref-3.ensures.value c.piece-start.ensures)
    ∙ c.requires.depth

pub put_moved-requires-clause-ordered : goal.put_moved-requires-clause-ordered
put_moved-requires-clause-ordered g c =
    let es = c.args.entries.now.items in
    let p = c.args.from.now in
    ordered-where (λ x. not (is_at_or_below x p)) es _
    (c.in_ok-taken.ensures.left ∙ rest_of p es c.deref.result.now c.piece-start.result.0 c.piece-start.result.1 c.requires.ordered c.deref.ensures.value
    c.piece-start.ensures) c.requires.ordered

pub put_moved-requires-clause-in_order : goal.put_moved-requires-clause-in_order
put_moved-requires-clause-in_order g c =
    let es = c.args.entries.now.items in
    let p = c.args.from.now in
    let q = c.args.to.now in
    let s = c.requires.ordered in
    let piece = c.piece-start.ensures in
    let tree = tree_of p es c.deref.result.now c.deref-3.result.now c.piece-start.result.0 c.piece-start.result.1 s c.deref.ensures.value
    c.deref-3.ensures.value piece in
    let taken = c.in_ok-taken.ensures.taken ∙ tree_of p es c.deref.result.now es c.piece-start.result.0 c.piece-start.result.1 s c.deref.ensures.value refl
    piece in
    ap (is_sorted path_cmp) (c.renamed.ensures ∙ moved_is p q es _ _ _ c.in_ok-paths.ensures tree taken) ∙ tree_ordered p q es s

pub put_moved-requires-clause-below : goal.put_moved-requires-clause-below
put_moved-requires-clause-below g c =
    let es = c.args.entries.now.items in
    let p = c.args.from.now in
    let q = c.args.to.now in
    let s = c.requires.ordered in
    let piece = c.piece-start.ensures in
    let tree = tree_of p es c.deref.result.now c.deref-3.result.now c.piece-start.result.0 c.piece-start.result.1 s c.deref.ensures.value
    c.deref-3.ensures.value piece in
    let taken = c.in_ok-taken.ensures.taken ∙ tree_of p es c.deref.result.now es c.piece-start.result.0 c.piece-start.result.1 s c.deref.ensures.value refl
    piece in
    ap (list_all (λ e. is_at_or_below e.0 q)) (c.renamed.ensures ∙ moved_is p q es _ _ _ c.in_ok-paths.ensures tree taken) ∙ moved_all p q (tree_in p es)

pub put_moved-requires-clause-room : goal.put_moved-requires-clause-room
put_moved-requires-clause-room g c =
    let es = c.args.entries.now.items in
    let p = c.args.from.now in
    let q = c.args.to.now in
    let s = c.requires.ordered in
    let piece = c.piece-start.ensures in
    let tree = tree_of p es c.deref.result.now c.deref-3.result.now c.piece-start.result.0 c.piece-start.result.1 s c.deref.ensures.value
    c.deref-3.ensures.value piece in
    let taken = c.in_ok-taken.ensures.taken ∙ tree_of p es c.deref.result.now es c.piece-start.result.0 c.piece-start.result.1 s c.deref.ensures.value refl
    piece in
    let rest = c.in_ok-taken.ensures.left ∙ rest_of p es c.deref.result.now c.piece-start.result.0 c.piece-start.result.1 s c.deref.ensures.value piece in
    let moved = c.renamed.ensures ∙ moved_is p q es _ _ _ c.in_ok-paths.ensures tree taken in
    omega (
      arith,
      c.in_ok-taken.ensures.room,
      ap length rest,
      ap length moved,
      length-parts p q es,
      c.args.entries.now.ok.0,
      c.args.entries.now.ok.1,
      c.detach.new.entries.ok.0,
      c.renamed.result.ok.0,
    )

pub returns-clause-ok : goal.returns-clause-ok
returns-clause-ok g c =
    let es = c.args.entries.now.items in
    let p = c.args.from.now in
    let q = c.args.to.now in
    let s = c.requires.ordered in
    let piece = c.piece-start.ensures in
    let tree = tree_of p es c.deref.result.now c.deref-3.result.now c.piece-start.result.0 c.piece-start.result.1 s c.deref.ensures.value
    c.deref-3.ensures.value piece in
    let taken = c.in_ok-taken.ensures.taken ∙ tree_of p es c.deref.result.now es c.piece-start.result.0 c.piece-start.result.1 s c.deref.ensures.value refl
    piece in
    let rest = c.in_ok-taken.ensures.left ∙ rest_of p es c.deref.result.now c.piece-start.result.0 c.piece-start.result.1 s c.deref.ensures.value piece in
    let moved = c.renamed.ensures ∙ moved_is p q es _ _ _ c.in_ok-paths.ensures tree taken in
    c.put_moved.ensures ∙ ap (λ ys. puts ys c.renamed.result.items) rest ∙ ap (puts (rest_in p es)) moved
