use Rattle.std.proofs.Common.{arith}
use Rattle.cfdp_paths.proofs.Marks.{marks_are}
use Rattle.cfdp_paths.proofs.scan.marks_of_8.Goals as goal

pub returns : goal.returns
returns c = marks_are c.args.octets.now c.args.index 8 c.requires (omega arith)
