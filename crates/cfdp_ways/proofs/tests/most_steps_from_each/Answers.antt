use Rattle.std.proofs.Common.{◌+◌, arith}
use Rattle.cfdp_ways.proofs.WayLaws.{led_shorter}
use Rattle.cfdp_ways.proofs.tests.most_steps_from_each.Goals as goal

pub most_steps-steps-requires : goal.most_steps-steps-requires
most_steps-steps-requires c =
    led_shorter c.args.ways.now (λ k. k) c.args.blocks (c.loop-from.from + 1) (omega (arith, c.loop-from-test.true)) c.requires
