use Rattle.std.proofs.Common.{◌+◌, ap, ◌∙◌, arith}
use Rattle.cfdp_ways.specs.Ways.{way_of}
use Rattle.cfdp_ways.proofs.WayLaws.{jump_within, jump_both}
use Rattle.cfdp_ways.proofs.way.way_after.Goals as goal

pub offset_bounds-ways-from-2 : goal.offset_bounds-ways-from-2
offset_bounds-ways-from-2 c =
    let on = c.requires.on in let n = c.args.last.now.index in
    let near = jump_within c.args.ways.now on.blocks (n + 1) n (omega arith) on.led c.from.result (c.from.ensures ∙ c.number-before.ensures.same_number
    ∙ on.there) in
    omega (arith, near, c.requires.small, c.from-2.ensures)

pub bounds-ways-from-2 : goal.bounds-ways-from-2
bounds-ways-from-2 c =
    let on = c.requires.on in let n = c.args.last.now.index in
    let near = jump_within c.args.ways.now on.blocks (n + 1) n (omega arith) on.led c.from.result (c.from.ensures ∙ c.number-before.ensures.same_number
    ∙ on.there) in
    omega (arith, near, c.from-2.ensures)

pub returns-then-near-far-clause-jump : goal.returns-then-near-far-clause-jump
returns-then-near-far-clause-jump c blocks led there =
    let ways = c.args.ways.now in
    jump_both ways blocks c.args.last.now.index led (way_of ways c.from.result) (way_of ways c.from-2.result)
    (ap (way_of ways) (c.from.ensures ∙ c.number-before.ensures.same_number ∙ there)) (ap (way_of ways) c.from-2.ensures)
