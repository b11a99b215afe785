use Rattle.std.proofs.Common.{sym, ◌∙◌}
use Rattle.cfdp_actions.proofs.BesideLaws.{beside_is}
use Rattle.cfdp_actions.proofs.entries.is_beside.Goals as goal

pub returns-then-is_below : goal.returns-then-is_below
returns-then-is_below c =
    beside_is c.args.path.now c.args.entry.now c.args.others.now c.depth.result c.has_beginning.result c.depth.ensures.depth
    (sym c.is_below.ensures ∙ c.if-is_below.true) c.has_beginning.ensures
