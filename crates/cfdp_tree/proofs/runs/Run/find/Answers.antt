use Rattle.std.proofs.Common.{◌<◌, arith}
use Rattle.cfdp_tree.proofs.OfStore.SlotCursors.{tail_cursor}
use Rattle.cfdp_tree.proofs.OfRuns.WayLaws.{on_way, found_at}
use Rattle.cfdp_tree.proofs.runs.Run.find.Goals as goal

pub find_back-requires-clause-on : goal.find_back-requires-clause-on
find_back-requires-clause-on c =
    let r = c.requires in
    on_way c.args.arena.now c.args.ways.now c.args.self.now c.args.from r.ways r.from (omega (arith, c.if-from-tail.true, c.tail-tail.ensures.index))

pub returns-then-from-tail-clause-cursor : goal.returns-then-from-tail-clause-cursor
returns-then-from-tail-clause-cursor c =
    let r = c.requires in let found = c.find_back in
    found_at c.args.arena.now c.args.ways.now c.args.self.now c.args.from found.result c.args.index r.ways r.from
    (omega (arith, c.if-from-tail.true, c.tail-tail.ensures.index))
    found.ensures.index found.ensures.block (omega (arith, c.if-index-from.true))

pub returns-clause-cursor : goal.returns-clause-cursor
returns-clause-cursor c =
    let r = c.requires in let found = c.find_back-2 in let run = c.args.self.now in let tail = c.tail-tail in
    let some : 0 < run.count = omega (arith, c.if-tail-index.false, tail.ensures.index) in
    found_at c.args.arena.now c.args.ways.now run tail.result found.result c.args.index r.ways
    (tail_cursor c.args.arena.now run tail.result r.held some tail.ensures.block tail.ensures.index)
    (omega (arith, some, tail.ensures.index)) found.ensures.index found.ensures.block (omega (arith, c.if-tail-index.false))
