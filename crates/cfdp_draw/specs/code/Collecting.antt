-- What only the proofs of the code need of `Collecting`.
--     is_wide                a mark is wide: all are but file data that is taken
--     next_of                where the next mark of a way is
--     last_phase             how far a transaction was seen to be last
use Rattle.std.specs.Prelude.{◌-◌, ◌==◌, Bool, true, false, if◌then◌else◌, List, Option, Some, None, length, slice_get}
use Rattle.cfdp_draw.specs.declared.axis.AxisPosition.{AxisPosition}
use Rattle.cfdp_draw.specs.declared.chart.Lane.{Lane}
use Rattle.cfdp_draw.specs.declared.chart.PhaseChange.{PhaseChange}
use Rattle.cfdp_draw.specs.declared.mark_kinds.MarkKind.{MarkKind}
use Rattle.cfdp_draw.specs.declared.mark_kinds.MarkKind.TheVariants.{FileData}
use Rattle.cfdp_draw.specs.declared.mark_kinds.DrawnPhase.{DrawnPhase}
use Rattle.cfdp_draw.specs.declared.mark_kinds.Direction.{Direction}
use Rattle.cfdp_draw.specs.declared.mark_kinds.Direction.TheVariants.{Came, Dropped, Sent}

abbrev pub is_dropped : Direction → Bool
is_dropped Dropped = true
is_dropped Came = false
is_dropped Sent = false

abbrev pub is_wide : MarkKind → Direction → Bool
is_wide FileData direction = is_dropped direction
is_wide _ direction = true

abbrev pub next_at_by : Direction → Lane → AxisPosition
next_at_by Sent lane = lane.next_sent
next_at_by Came lane = lane.next_came
next_at_by Dropped lane = lane.next_came

abbrev pub phase_in : Option PhaseChange → Option DrawnPhase
phase_in None = None
phase_in (Some change) = change.phase

abbrev pub last_phase : List PhaseChange → Option DrawnPhase
last_phase phases = phase_in (slice_get phases (length phases - 1))

unfoldable pub next_of : Lane → Direction → AxisPosition → AxisPosition
next_of lane direction here = if (next_at_by direction lane).moments == here.moments then next_at_by direction lane
    else here
