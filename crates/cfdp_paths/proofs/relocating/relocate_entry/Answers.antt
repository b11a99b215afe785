use Rattle.std.proofs.Common.{not, ◌∙◌}
use Rattle.cfdp_paths.specs.Paths.{is_at_or_below}
use Rattle.cfdp_paths.proofs.InOrder.{ordered-where}
use Rattle.cfdp_paths.proofs.Moving.{one_tree, one_read, one_rest, one_shallow, one_below, one_moved}
use Rattle.cfdp_paths.proofs.relocating.relocate_entry.Goals as goal

pub may_stay-requires : goal.may_stay-requires
may_stay-requires g c =
    let es = c.args.entries.now.items in
    let entry = c.index.result.now in
    one_below c.args.from.now es entry (one_tree c.args.from.now es c.args.index entry entry c.requires.ordered c.requires.piece c.index.ensures)

pub rebased-requires-clause-below : goal.rebased-requires-clause-below
rebased-requires-clause-below g c =
    let es = c.args.entries.now.items in
    let entry = c.index-2.result.now in
    one_below c.args.from.now es entry (one_tree c.args.from.now es c.args.index entry entry c.requires.ordered c.requires.piece c.index-2.ensures)

pub rebased-requires-clause-room : goal.rebased-requires-clause-room
rebased-requires-clause-room g c =
    let es = c.args.entries.now.items in
    let entry = c.index-2.result.now in
    one_shallow c.args.from.now c.args.to.now es entry (one_tree c.args.from.now es c.args.index entry entry c.requires.ordered c.requires.piece
    c.index-2.ensures) c.requires.depth

pub put_reserved-requires-clause-ordered : goal.put_reserved-requires-clause-ordered
put_reserved-requires-clause-ordered g c =
    let es = c.args.entries.now.items in
    ordered-where (λ x. not (is_at_or_below x c.args.from.now)) es _ (c.remove-value.ensures.items
    ∙ one_rest c.args.from.now es c.args.index c.requires.ordered c.requires.piece) c.requires.ordered

pub returns-clause-ok : goal.returns-clause-ok
returns-clause-ok g c =
    let es = c.args.entries.now.items in
    let p = c.args.from.now in
    let entry = c.index-2.result.now in
    let value = c.remove-value.result in
    let tree = one_tree p es c.args.index entry entry c.requires.ordered c.requires.piece c.index-2.ensures in
    c.put_reserved.ensures.put
    ∙ one_moved p c.args.to.now es entry value c.in_ok-path.path tree (one_read p es c.args.index value entry c.requires.piece c.remove-value.ensures.value
    c.index-2.ensures) c.in_ok-path.ensures c.remove-value.new.self.items
    (c.remove-value.ensures.items ∙ one_rest p es c.args.index c.requires.ordered c.requires.piece)
