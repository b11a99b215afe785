use Rattle.std.proofs.Common.{◌≡◌, ◌+◌, ap, ◌∙◌, arith}
use Rattle.cfdp_ways.proofs.WayLaws.{led_shorter}
use Rattle.cfdp_ways.proofs.way.find_back.Goals as goal

pub loop-cursor-preserved : goal.loop-cursor-preserved
loop-cursor-preserved c =
    let ways = c.args.ways.now in let l = c.loop-cursor in let inv = l.invariant in let step = c.step_back-cursor in
    record {
      on = record {
        blocks = inv.on.blocks;
        led = led_shorter ways inv.on.blocks (l.cursor.index + 1) (step.result.index + 1) (omega (arith, step.ensures.nearer)) inv.on.led;
        there = step.ensures.block inv.on.blocks inv.on.led inv.on.there;
      };
      later = step.ensures.within;
      nearer = omega (arith, step.ensures.nearer, inv.nearer);
      block = (λ blocks led there. step.ensures.block blocks (led_shorter ways blocks (c.args.from.index + 1) (l.cursor.index + 1)
          (omega (arith, inv.nearer)) led) (inv.block blocks led there));
    }

pub returns-clause-block : goal.returns-clause-block
returns-clause-block c blocks led there =
    let l = c.loop-cursor in
    let here : l.cursor.index ≡ c.args.index = omega (arith, l.invariant.later, c.loop-cursor-test.false) in
    l.invariant.block blocks led there ∙ ap blocks here
