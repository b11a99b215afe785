use Rattle.std.proofs.Common.{◌≡◌, ◌+◌, ◌-◌, suc, inl, inr, None, Some, subst, rules}
use Rattle.cfdp_transactions.specs.World.{next_runnable}
use Rattle.cfdp_transactions.specs.MostSettled.{most_settled}
use Rattle.cfdp_commands.proofs.Steps.{Steps, steps_next, steps_end}
use Rattle.cfdp_commands.proofs.reply_lines.run.Goals as goal

pub returns-in_default-clause-world : goal.returns-in_default-clause-world
returns-in_default-clause-world c =
    let none : next_runnable c.steps.entity.table ≡ None = search rules in
    (steps_end (most_settled - c.steps.counter) _ _ _ _ _ c.steps.invariant (inr none)).0

pub returns-in_default-clause-text : goal.returns-in_default-clause-text
returns-in_default-clause-text c =
    let none : next_runnable c.steps.entity.table ≡ None = search rules in
    (steps_end (most_settled - c.steps.counter) _ _ _ _ _ c.steps.invariant (inr none)).1

pub steps-preserved : goal.steps-preserved
steps-preserved c =
    let more : most_settled - c.steps.counter ≡ suc (most_settled - (c.steps.counter + 1)) = search rules in
    let some : next_runnable c.steps.entity.table ≡ Some c.in-Some.id = search rules in
    steps_next (most_settled - (c.steps.counter + 1)) _ c.steps.entity c.tell.new.entity most_settled c.in-Some.id
    _ c.steps.text.items c.tell.new.text.items
    (subst (λ left. Steps left c.args.entity.now c.steps.entity most_settled c.args.text.now.items c.steps.text.items) more
    c.steps.invariant)
    some c.in_ok-tell.ensures.world c.in_ok-tell.ensures.text

pub returns-clause-world : goal.returns-clause-world
returns-clause-world c =
    let none : most_settled - c.steps.counter ≡ 0 = search rules in
    (steps_end (most_settled - c.steps.counter) _ _ _ _ _ c.steps.invariant (inl none)).0

pub returns-clause-text : goal.returns-clause-text
returns-clause-text c =
    let none : most_settled - c.steps.counter ≡ 0 = search rules in
    (steps_end (most_settled - c.steps.counter) _ _ _ _ _ c.steps.invariant (inl none)).1
