use Rattle.std.proofs.Common.{length, sym, ap, ◌∙◌}
use Rattle.cfdp_order.proofs.HeightLaws.{known_of}
use Rattle.cfdp_order.proofs.tests.listed.Goals as goal

pub first_after-next-requires-clause-known : goal.first_after-next-requires-clause-known
first_after-next-requires-clause-known c =
    known_of c.args.links.now c.args.order c.requires.order c.sought_key.result.keys.now (c.requires.long ∙ ap length (sym c.sought_key.ensures.keys))
