use Rattle.std.proofs.Common.{◌<◌, length, arith}
use Rattle.cfdp_actions.specs.Filestore.{staged_in}
use Rattle.cfdp_transactions.proofs.Received.FillingGaps.{put_more, puts_more}
use Rattle.cfdp_transactions.proofs.file_data.put_missing.Goals as goal

pub gaps-preserved : goal.gaps-preserved
gaps-preserved g c =
    let s = g.S.Filestore.state c.args.store.now in
    let t = g.S.Filestore.state c.gaps.store in
    let before = c.gaps.invariant in
    let gap = c.in-Some.ensures.some in
    let slot : c.args.slot < length s.filestore.staged = omega (arith, c.requires.slot, c.staged_size.ensures.slots) in
    let put =
    put_more c.args.ranges.now c.args.at c.args.octets.now (staged_in s.filestore c.args.slot)
    (staged_in t.filestore c.args.slot) c.gaps.from c.in-Some.start c.in-Some.stop before.puts.put before.begun gap c.requires.there in
    record {
      puts = puts_more c.args.ranges.now c.args.at c.args.octets.now c.args.slot s t _ c.gaps.from c.in-Some.stop _ slot before.puts c.stage_put.ensures put;
      begun = omega (arith, before.begun, gap.from, gap.some);
      reached = gap.to;
    }
