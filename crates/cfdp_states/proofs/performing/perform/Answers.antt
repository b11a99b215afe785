use Rattle.cfdp_states.proofs.Barred.{barred, unbarred}
use Rattle.cfdp_states.proofs.performing.perform.Goals as goal

pub returns-then-bars : goal.returns-then-bars
returns-then-bars c = barred c.args.protected.now c.args.extents.now c.args.request.now c.bars.result c.action.result c.bars.ensures c.if-bars.true
    c.action.ensures

pub returns : goal.returns
returns c = unbarred c.args.protected.now c.args.extents.now _ c.args.request.now c.bars.result _ c.bars.ensures c.if-bars.false c.perform_freely.ensures
