use Rattle.std.proofs.Common.{◌+◌, arith}
use Rattle.cfdp_ways.proofs.WayLaws.{led_shorter}
use Rattle.cfdp_ways.proofs.tests.steps.Goals as goal

pub step_back-cursor-requires-clause-on : goal.step_back-cursor-requires-clause-on
step_back-cursor-requires-clause-on c =
    let l = c.loop-cursor in
    record {
      blocks = (λ k. k);
      led = led_shorter c.args.ways.now (λ k. k) (c.args.from + 1) (l.cursor.index + 1) (omega (arith, l.invariant.counted)) c.requires.led;
      there = l.invariant.there;
    }
