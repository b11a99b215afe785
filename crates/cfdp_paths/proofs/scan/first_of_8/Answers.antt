use Rattle.std.proofs.Common.{arith}
use Rattle.cfdp_paths.proofs.Marks.{no_mark, first_mark}
use Rattle.cfdp_paths.proofs.scan.first_of_8.Goals as goal

pub returns-then-marks-eq0 : goal.returns-then-marks-eq0
returns-then-marks-eq0 c = no_mark c.args.octets.now c.args.index 8 c.marks_of_8-marks.result c.marks_of_8-marks.ensures c.requires c.if-marks-eq0.true

pub returns : goal.returns
returns c = first_mark c.args.octets.now c.args.index 8 c.marks_of_8-marks.result c.marks_of_8-marks.ensures c.requires (omega arith) c.if-marks-eq0.false
