use Rattle.std.proofs.Common.{◌≡◌, ◌+◌, ◌-◌, suc, inl, inr, arith, sym, ◌∙◌}
use Rattle.cfdp_receiver.specs.State.{Work, Finish}
use Rattle.cfdp_transactions.specs.MostSettled.{most_settled}
use Rattle.cfdp_run.proofs.Loops.{settled_work, settled_finish, settled_none, settles_next, settles_end}
use Rattle.cfdp_run.proofs.player.Player.settle.Goals as goal
use Rattle.cfdp_run.proofs.player.Player.settle.Goals.{then-has_work+in_ok-work, else-has_work+then-has_outcome+in_ok-finish}

pub returns-else-has_outcome : goal.returns-else-has_outcome
returns-else-has_outcome c =
    let R = c.inputs.self.receiver.state in
    let none = settled_none c.args.now R (sym c.has_work.ensures ∙ c.if-has_work.false) (sym c.has_outcome.ensures ∙ c.if-has_outcome.false) in
    settles_end (most_settled - c.inputs.counter) c.args.now R _ _ _ c.inputs.text.items (inr none) c.inputs.invariant

pub inputs-preserved : goal.inputs-preserved
inputs-preserved c =
    let R = c.inputs.self.receiver.state in
    let one : most_settled - c.inputs.counter ≡ suc (most_settled - (c.inputs.counter + 1)) = omega (arith, c.inputs-test.true) in
    elim c.if-has_work.branch [
      | then-has_work+in_ok-work w ↦
          rw (w.self-is, w.text-is)
          (settles_next (most_settled - c.inputs.counter) (most_settled - (c.inputs.counter + 1)) c.args.now R (Work c.args.now) _ _ _ c.inputs.text.items _ _
          one (settled_work c.args.now R (sym c.has_work.ensures ∙ w.if-has_work.true)) c.inputs.invariant w.in_ok-work.ensures)
      | else-has_work+then-has_outcome+in_ok-finish w ↦
          rw (w.self-is, w.text-is)
          (settles_next (most_settled - c.inputs.counter) (most_settled - (c.inputs.counter + 1)) c.args.now R (Finish c.args.now) _ _ _ c.inputs.text.items _ _
          one (settled_finish c.args.now R (sym c.has_work.ensures ∙ w.if-has_work.false) (sym w.has_outcome.ensures ∙ w.if-has_outcome.true))
          c.inputs.invariant
          w.in_ok-finish.ensures)
    ]

pub returns : goal.returns
returns c =
    let none : most_settled - c.inputs.counter ≡ 0 = omega (arith, c.inputs-test.false) in
    settles_end (most_settled - c.inputs.counter) c.args.now c.inputs.self.receiver.state _ _ _ c.inputs.text.items (inl none) c.inputs.invariant
