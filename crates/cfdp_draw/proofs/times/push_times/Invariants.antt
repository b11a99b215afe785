use Rattle.std.proofs.Common.{◌≡◌, ◌++◌, length}
use Rattle.std.specs.Prelude.{None}
use Rattle.cfdp_draw.specs.Times.{times_text}
use Rattle.cfdp_draw.proofs.times.push_times.Given as goal

abbrev pub invariant-times : goal.invariant-times
invariant-times l =
    l.text.items ++ times_text l.total l.bottom l.free l.last l.rest ≡ l.initial.text.items ++ times_text l.total l.bottom 0 None l.moments

abbrev pub decreases-times : goal.decreases-times
decreases-times l = length l.rest
