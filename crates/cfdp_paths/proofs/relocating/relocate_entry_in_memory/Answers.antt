use Rattle.std.proofs.Common.{not, refl, ◌∙◌}
use Rattle.cfdp_paths.specs.Paths.{is_at_or_below}
use Rattle.cfdp_paths.proofs.InOrder.{ordered-where}
use Rattle.cfdp_paths.proofs.Moving.{one_tree, one_rest, one_shallow, one_below, one_moved}
use Rattle.cfdp_paths.proofs.relocating.relocate_entry_in_memory.Goals as goal

pub rebase-requires-clause-below : goal.rebase-requires-clause-below
rebase-requires-clause-below g c =
    let es = c.args.entries.now.items in
    let entry = c.remove-path.result in
    one_below c.args.from.now es entry (one_tree c.args.from.now es c.args.index entry entry c.requires.ordered c.requires.piece c.remove-path.ensures.value)

pub rebase-requires-clause-room : goal.rebase-requires-clause-room
rebase-requires-clause-room g c =
    let es = c.args.entries.now.items in
    let entry = c.remove-path.result in
    one_shallow c.args.from.now c.args.to.now es entry (one_tree c.args.from.now es c.args.index entry entry c.requires.ordered c.requires.piece
    c.remove-path.ensures.value) c.requires.depth

pub put_reserved-requires-clause-ordered : goal.put_reserved-requires-clause-ordered
put_reserved-requires-clause-ordered g c =
    let es = c.args.entries.now.items in
    ordered-where (λ x. not (is_at_or_below x c.args.from.now)) es _ (c.remove-path.ensures.items
    ∙ one_rest c.args.from.now es c.args.index c.requires.ordered c.requires.piece) c.requires.ordered

pub returns : goal.returns
returns g c =
    let es = c.args.entries.now.items in
    let p = c.args.from.now in
    let entry = c.remove-path.result in
    let tree = one_tree p es c.args.index entry entry c.requires.ordered c.requires.piece c.remove-path.ensures.value in
    c.put_reserved.ensures.put
    ∙ one_moved p c.args.to.now es entry entry c.rebase.new.self tree refl c.rebase.ensures c.remove-path.new.self.items
    (c.remove-path.ensures.items ∙ one_rest p es c.args.index c.requires.ordered c.requires.piece)
