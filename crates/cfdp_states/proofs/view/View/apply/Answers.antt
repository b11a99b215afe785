use Rattle.std.proofs.lemmas.Result.{err_from_is_err_and}
use Rattle.cfdp_states.proofs.Viewing.{tells_next, tells_wanting}
use Rattle.cfdp_states.proofs.view.View.apply.Goals as goal

pub returns-in_err-status-clause-thrifty : goal.returns-in_err-status-clause-thrifty
returns-in_err-status-clause-thrifty c =
    let gone = err_from_is_err_and c.from_residual.result c.from_residual.ensures.1 in
    rw gone.1 (tells_wanting c.args.self.now c.self.inside.protected.now c.self.inside.extents c.self.inside.base c.self.inside.need c.self.inside.steps
    c.args.request.now
    c.self.view_is c.in_err-status.ensures.1 c.in_err-status.ensures.2)

pub returns-clause-stated : goal.returns-clause-stated
returns-clause-stated c =
    tells_next c.args.self.now c.self.inside.protected.now c.self.inside.extents c.perform.new.extents c.self.inside.base c.self.inside.need c.self.inside.steps
    c.raise_need-self-inside.result c.add_steps-self-inside.result c.args.request.now c.in_ok-status.status c.step_bound-bound.result c.blocks-2.result
    c.self.view_is c.in_ok-status.ensures c.step_bound-bound.ensures.value c.blocks-2.ensures.value
    c.raise_need-self-inside.ensures c.add_steps-self-inside.ensures
