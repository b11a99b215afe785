use Rattle.std.proofs.Common.{◌+◌, ◌∙◌, ap, sym, arith}
use Rattle.cfdp_states.proofs.Installing.{tells_installed, tells_refused}
use Rattle.cfdp_states.proofs.view.View.install.Goals as goal

pub returns-then-not-can_install-clause-stated : goal.returns-then-not-can_install-clause-stated
returns-then-not-can_install-clause-stated c =
    tells_refused c.args.self.now c.self.inside.protected.now c.self.inside.extents c.self.inside.base c.self.inside.need c.self.inside.steps c.args.path.now
    c.args.bound
    c.self.view_is c.can_install.ensures.named
    (sym c.can_install.ensures.value ∙ c.if-not-can_install.true)

pub returns-clause-stated : goal.returns-clause-stated
returns-clause-stated c =
    tells_installed c.args.self.now c.self.inside.protected.now c.self.inside.extents c.put.new.self c.self.inside.base c.self.inside.need
    c.raise_need-need.result c.raise_need-self-inside.result c.self.inside.steps c.add_steps-self-inside.result c.args.path.now c.args.bound
    (1 + c.content-ticks.result) (c.blocks-2.result + c.from.result) c.blocks-3.result
    c.self.view_is c.can_install.ensures.named
    (sym c.can_install.ensures.value ∙ c.if-not-can_install.false)
    (omega arith)
    c.in_ok-put.ensures.ok
    (ap (λ n. 1 + n) c.content-ticks.ensures.value)
    (λ i. c.blocks-2.ensures.value i + (c.from.ensures ∙ c.content.ensures.value) i)
    c.blocks-3.ensures.value
    c.raise_need-need.ensures c.raise_need-self-inside.ensures c.add_steps-self-inside.ensures
