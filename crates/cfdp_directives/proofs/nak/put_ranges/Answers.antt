use Rattle.std.proofs.Common.{arith, get_or, ◌∙◌, ap, sym, length, take}
use Rattle.std.specs.List.{flat_map}
use Rattle.std.proofs.lemmas.List.{length-append}
use Rattle.std.proofs.lemmas.List.Folds.{length-flat_map-take}
use Rattle.cfdp_pdus.specs.BufferParts.{with_octets_at}
use Rattle.cfdp_directives.specs.Spelling.{range_octets}
use Rattle.cfdp_directives.proofs.Lengths.{range_len}
use Rattle.cfdp_directives.proofs.Ranges.{octets_more}
use Rattle.cfdp_pdus.proofs.BufferParts.{then}
use Rattle.cfdp_directives.proofs.nak.put_ranges.Goals as goal

pub put_range-requires-clause-room : goal.put_range-requires-clause-room
put_range-requires-clause-room c =
    let item = get_or c.args.ranges.now c.loop-range.range-index (0, 0) in
    let part = length-flat_map-take (range_octets c.args.large) c.args.ranges.now c.loop-range.range-index (0, 0) c.loop-range-test.true in
    omega (arith, part, range_len c.args.large item, c.requires.room, c.loop-range.invariant.offset, c.loop-range.auto.out)

pub loop-range-preserved : goal.loop-range-preserved
loop-range-preserved c =
    let item = get_or c.args.ranges.now c.loop-range.range-index (0, 0) in
    let octets = flat_map (range_octets c.args.large) (take c.loop-range.range-index c.args.ranges.now) in
    let more = octets_more c.args.large c.args.ranges.now c.loop-range.range-index (0, 0) c.loop-range-test.true in
    record {
      written =
          then c.args.out.now c.loop-range.out c.put_range.new.out octets (range_octets c.args.large item) c.args.at c.loop-range.next
          (omega (arith, c.requires.room)) c.loop-range.invariant.written c.put_range.ensures c.loop-range.invariant.offset
          ∙ ap (with_octets_at c.args.out.now c.args.at) (sym more);
      offset = omega (
        arith,
        c.loop-range.invariant.offset,
        c.range_len-next.ensures,
        ap length more,
        length-append octets (range_octets c.args.large item),
        range_len c.args.large item,
      );
    }
