use Rattle.std.proofs.Common.{arith}
use Rattle.cfdp_tree.proofs.OfStore.SlotCursors.{tail_cursor}
use Rattle.cfdp_tree.proofs.OfRuns.WayLaws.{on_way, ways_grown}
use Rattle.cfdp_tree.proofs.runs.Run.grow.Goals as goal

pub extend_list-requires-clause-on : goal.extend_list-requires-clause-on
extend_list-requires-clause-on c =
    let a = c.args.arena.now in let run = c.args.self.now in let last = c.tail-last in
    on_way a c.args.ways.now run last.result c.requires.ways (tail_cursor a run last.result c.requires.held c.requires.some last.ensures.block
    last.ensures.index) (omega (arith, c.requires.some, last.ensures.index))

pub returns-clause-ways : goal.returns-clause-ways
returns-clause-ways c =
    let longer = c.lengthen.ensures in let last = c.tail-last in let run = c.args.self.now in
    ways_grown c.args.arena.now c.lengthen.new.arena c.args.ways.now c.extend_list.new.ways run c.lengthen.new.self last.result c.requires.held c.requires.some
    last.ensures.block last.ensures.index c.requires.ways
    longer.size (omega (arith, c.extend_list.auto.ways)) longer.held longer.count longer.sequence longer.was_free c.extend_list.ensures.led
