use Rattle.std.proofs.Common.{◌≡◌, ◌+◌, ◌-◌, suc, arith, sym, ap, ◌∙◌, Ok}
use Rattle.cfdp_run.specs.Playing.{most_timers}
use Rattle.cfdp_live.proofs.Making.{passes_next, passes_last, passes_end}
use Rattle.cfdp_live.proofs.live.Live.pass.Goals as goal

pub returns-then-branch : goal.returns-then-branch
returns-then-branch c =
    let one : most_timers - c.timers.counter ≡ suc (most_timers - (c.timers.counter + 1)) = omega (arith, c.timers-test.true) in
    passes_last (most_timers - c.timers.counter) (most_timers - (c.timers.counter + 1)) c.args.now c.timers.self.receiver.state _ _ _ c.timers.output _ _
    one (sym c.in_ok-expire.ensures.idle ∙ c.if-branch.true) c.timers.invariant (c.in_ok-expire.ensures.none (ap Ok c.if-branch.true))

pub timers-preserved : goal.timers-preserved
timers-preserved c =
    let one : most_timers - c.timers.counter ≡ suc (most_timers - (c.timers.counter + 1)) = omega (arith, c.timers-test.true) in
    passes_next (most_timers - c.timers.counter) (most_timers - (c.timers.counter + 1)) c.args.now c.timers.self.receiver.state _ _ _ c.timers.output _ _
    one (sym c.in_ok-expire.ensures.idle ∙ c.if-branch.false) c.timers.invariant (c.in_ok-expire.ensures.some (ap Ok c.if-branch.false))

pub returns : goal.returns
returns c =
    let none : most_timers - c.timers.counter ≡ 0 = omega (arith, c.timers-test.false) in
    passes_end (most_timers - c.timers.counter) c.args.now c.timers.self.receiver.state _ _ _ c.timers.output none c.timers.invariant
