use Rattle.std.proofs.Common.{◌≡◌, ◌≤◌, length}
use Rattle.cfdp_run.specs.Scripts.{is_written}
use Rattle.cfdp_run.proofs.play.is_among.Given as goal

-- no line that was passed is the one
abbrev pub invariant-lines : goal.invariant-lines
invariant-lines l = record {
  same : is_written l.rest l.line ≡ is_written l.lines l.line;
  short : length l.rest ≤ length l.lines;
}

abbrev pub decreases-lines : goal.decreases-lines
decreases-lines l = length l.rest
