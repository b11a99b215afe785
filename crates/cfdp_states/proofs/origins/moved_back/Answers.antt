use Rattle.std.proofs.Common.{◌||◌, sym, ◌∙◌, ap}
use Rattle.std.specs.List.{list_any}
use Rattle.cfdp_paths.specs.Paths.{is_at_or_below}
use Rattle.cfdp_states.proofs.SparsePaths.{still}
use Rattle.cfdp_states.proofs.origins.moved_back.Goals as goal

pub returns-then-not-any_moves : goal.returns-then-not-any_moves
returns-then-not-any_moves c = sym (still c.args.from.now c.args.to.now c.args.paths.items
    (ap (list_any (λ s. is_at_or_below s c.args.to.now || is_at_or_below s c.args.from.now)) (sym c.deref.ensures.value) ∙ sym c.any_moves.ensures
    ∙ c.if-not-any_moves.true))
