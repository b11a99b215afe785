use Rattle.std.proofs.Common.{◌∙◌, sym, subst, ◌+◌, set}
use Rattle.cfdp_ways.specs.Ways.{IsLed}
use Rattle.cfdp_ways.proofs.WayLaws.{led_longer}
use Rattle.cfdp_ways.proofs.way.extend_list.Goals as goal

pub returns-clause-led : goal.returns-clause-led
returns-clause-led c blocks led there next fresh =
    let n = c.args.last.now.index in let way = c.way_after.ensures in
    subst (λ i. IsLed (set c.args.ways.now i c.way_after.result) blocks (n + 2)) (sym c.number.ensures.same_number)
    (led_longer c.args.ways.now blocks n c.args.block c.way_after.result led next fresh c.requires.within (way.before ∙ there)
    (way.jump blocks led there) way.some way.within)
