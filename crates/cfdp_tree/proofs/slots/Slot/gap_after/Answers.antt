use Rattle.std.proofs.Common.{refl}
use Rattle.cfdp_tree.proofs.OfStore.SlotCursors.{gap_written}
use Rattle.cfdp_tree.proofs.slots.Slot.gap_after.Goals as goal

pub returns-clause-blank : goal.returns-clause-blank
returns-clause-blank c octets part long end_is range was =
    let left = c.without.ensures in
    gap_written octets part c.args.at c.args.end c.args.self.now c.without.result _ c.longer.result long end_is range was left.ordered left.begins left.ends
    left.apart refl c.max.ensures c.longer.ensures.either
