use Rattle.std.proofs.Common.{◌≡◌, ap, not, refl, ◌∙◌, arith, length, drop}
use Rattle.std.proofs.lemmas.List.{take_at}
use Rattle.std.specs.FinMap.{is_sorted}
use Rattle.std.specs.List.{list_all}
use Rattle.cfdp_paths.specs.Paths.{path_cmp, is_at_or_below}
use Rattle.cfdp_paths.specs.PathMaps.{tree_in, moved_to, puts, is_too_deep}
use Rattle.cfdp_paths.proofs.InOrder.{ordered-where}
use Rattle.cfdp_paths.proofs.Moving.{tree_of, rest_of, tree_all, moved_all, tree_ordered, length-parts, length-moved}
use Rattle.cfdp_paths.proofs.relocating.relocate_in_memory.Goals as goal

pub rebase_all-requires-clause-below : goal.rebase_all-requires-clause-below
rebase_all-requires-clause-below g c =
    let es = c.args.entries.now.items in
    let p = c.args.from.now in
    let taken = c.deref_mut.ensures.value ∙ c.in_ok-moved.ensures.taken ∙ tree_of p es es es c.args.start c.args.end c.requires.ordered refl refl
    c.requires.piece in
    ap (list_all (λ e. is_at_or_below e.0 p)) taken ∙ tree_all p es

pub rebase_all-requires-clause-depth : goal.rebase_all-requires-clause-depth
rebase_all-requires-clause-depth g c =
    let es = c.args.entries.now.items in
    let p = c.args.from.now in
    let taken = c.deref_mut.ensures.value ∙ c.in_ok-moved.ensures.taken ∙ tree_of p es es es c.args.start c.args.end c.requires.ordered refl refl
    c.requires.piece in
    ap (is_too_deep p c.args.to.now) taken ∙ c.requires.depth

pub put_moved-requires-clause-ordered : goal.put_moved-requires-clause-ordered
put_moved-requires-clause-ordered g c =
    let es = c.args.entries.now.items in
    let p = c.args.from.now in
    let s = c.requires.ordered in
    ordered-where (λ x. not (is_at_or_below x p)) es _ (c.in_ok-moved.ensures.left ∙ rest_of p es es c.args.start c.args.end s refl c.requires.piece) s

pub put_moved-requires-clause-in_order : goal.put_moved-requires-clause-in_order
put_moved-requires-clause-in_order g c =
    let es = c.args.entries.now.items in
    let p = c.args.from.now in
    let q = c.args.to.now in
    let s = c.requires.ordered in
    let taken = c.deref_mut.ensures.value ∙ c.in_ok-moved.ensures.taken ∙ tree_of p es es es c.args.start c.args.end s refl refl c.requires.piece in
    let count : length c.rebase_all.new.entries ≡ c.in_ok-moved.moved.len =
    ap length c.rebase_all.ensures ∙ length-moved p q c.deref_mut.result.now ∙ ap length c.deref_mut.ensures.value ∙ omega (arith, c.in_ok-moved.moved.ok.0) in
    ap (is_sorted path_cmp) (take_at c.rebase_all.new.entries _ c.in_ok-moved.moved.len count ∙ c.rebase_all.ensures ∙ ap (moved_to p q) taken)
    ∙ tree_ordered p q es s

pub put_moved-requires-clause-below : goal.put_moved-requires-clause-below
put_moved-requires-clause-below g c =
    let es = c.args.entries.now.items in
    let p = c.args.from.now in
    let q = c.args.to.now in
    let s = c.requires.ordered in
    let taken = c.deref_mut.ensures.value ∙ c.in_ok-moved.ensures.taken ∙ tree_of p es es es c.args.start c.args.end s refl refl c.requires.piece in
    let count : length c.rebase_all.new.entries ≡ c.in_ok-moved.moved.len =
    ap length c.rebase_all.ensures ∙ length-moved p q c.deref_mut.result.now ∙ ap length c.deref_mut.ensures.value ∙ omega (arith, c.in_ok-moved.moved.ok.0) in
    ap (list_all (λ e. is_at_or_below e.0 q)) (take_at c.rebase_all.new.entries _ c.in_ok-moved.moved.len count ∙ c.rebase_all.ensures
    ∙ ap (moved_to p q) taken) ∙ moved_all p q (tree_in p es)

pub put_moved-requires-clause-room : goal.put_moved-requires-clause-room
put_moved-requires-clause-room g c =
    let es = c.args.entries.now.items in
    let p = c.args.from.now in
    let q = c.args.to.now in
    let s = c.requires.ordered in
    let taken = c.in_ok-moved.ensures.taken ∙ tree_of p es es es c.args.start c.args.end s refl refl c.requires.piece in
    let rest = c.in_ok-moved.ensures.left ∙ rest_of p es es c.args.start c.args.end s refl c.requires.piece in
    omega (
      arith,
      c.in_ok-moved.ensures.room,
      ap length rest,
      ap length taken,
      length-moved p q (tree_in p es),
      length-parts p q es,
      c.args.entries.now.ok.0,
      c.args.entries.now.ok.1,
      c.detach.new.entries.ok.0,
      c.in_ok-moved.moved.ok.0,
    )

pub returns-clause-ok : goal.returns-clause-ok
returns-clause-ok g c =
    let es = c.args.entries.now.items in
    let p = c.args.from.now in
    let q = c.args.to.now in
    let s = c.requires.ordered in
    let taken = c.deref_mut.ensures.value ∙ c.in_ok-moved.ensures.taken ∙ tree_of p es es es c.args.start c.args.end s refl refl c.requires.piece in
    let rest = c.in_ok-moved.ensures.left ∙ rest_of p es es c.args.start c.args.end s refl c.requires.piece in
    let count : length c.rebase_all.new.entries ≡ c.in_ok-moved.moved.len =
    ap length c.rebase_all.ensures ∙ length-moved p q c.deref_mut.result.now ∙ ap length c.deref_mut.ensures.value ∙ omega (arith, c.in_ok-moved.moved.ok.0) in
    let moved = take_at c.rebase_all.new.entries (drop (length c.rebase_all.new.entries) c.in_ok-moved.moved.items) c.in_ok-moved.moved.len count
    ∙ c.rebase_all.ensures ∙ ap (moved_to p q) taken in
    c.put_moved.ensures ∙ ap (puts c.detach.new.entries.items) moved ∙ ap (λ ys. puts ys (moved_to p q (tree_in p es))) rest
