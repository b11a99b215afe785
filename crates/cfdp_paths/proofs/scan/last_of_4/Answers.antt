use Rattle.cfdp_paths.proofs.Marks.{no_mark, last_mark}
use Rattle.cfdp_paths.proofs.scan.last_of_4.Goals as goal

pub returns-then-marks-eq0 : goal.returns-then-marks-eq0
returns-then-marks-eq0 c = no_mark c.args.octets.now c.args.index 4 c.marks_of_4-marks.result c.marks_of_4-marks.ensures c.requires c.if-marks-eq0.true

pub returns : goal.returns
returns c =
    last_mark c.args.octets.now c.args.index 4 c.marks_of_4-marks.result c.ilog2.result c.marks_of_4-marks.ensures c.requires
    c.ilog2.ensures.power_le c.ilog2.ensures.next_power_gt
