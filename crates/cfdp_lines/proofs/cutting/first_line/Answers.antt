use Rattle.std.proofs.Common.{◌+◌, arith}
use Rattle.std.proofs.lemmas.List.{take_rest}
use Rattle.cfdp_lines.proofs.Feeding.{one_line-before, one_line-whole}
use Rattle.cfdp_lines.proofs.LineLemmas.{lines_of-first, lines_of-last}
use Rattle.cfdp_lines.proofs.cutting.first_line.Goals as goal

pub returns-in_default-clause-lines : goal.returns-in_default-clause-lines
returns-in_default-clause-lines c = lines_of-last c.args.octets.now (one_line-whole c.args.octets.now c.in_default.ensures) c.requires

pub returns-clause-lines : goal.returns-clause-lines
returns-clause-lines c =
    rw (take_rest c.args.octets.now (c.in-Some.end + 1))
    (lines_of-first c.args.octets.now c.in-Some.end (one_line-before c.args.octets.now c.in-Some.end
    (omega (arith, c.in-Some.ensures.0.high)) c.in-Some.ensures.0.before)
    c.in-Some.ensures.0.high c.in-Some.ensures.1)
