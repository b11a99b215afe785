-- The times of a picture.
--     free_after           where the next time may be after one
--     is_time_written      a time is written: it is another one than the last, and there is room
--     time_text            a time below the lanes, and a line from there to their top
--     times_text           the times of moments, where there is room for them
use Rattle.std.specs.Prelude.{ℕ, ◌+◌, ◌*◌, ◌==◌, ◌&&◌, Bool, true, not, nat_le, if◌then◌else◌, List, [], ◌∷◌, ◌++◌, Option, Some, None, codes}
use Rattle.cfdp_draw.specs.Axis.{x_of}
use Rattle.cfdp_draw.specs.Shapes.{grid_text, number_shape}
use Rattle.cfdp_draw.specs.Words.{digits_of}
use Rattle.cfdp_draw.specs.declared.axis.AxisPosition.{AxisPosition}
use Rattle.cfdp_draw.specs.declared.blocks.TheConstants.{BASE}
use Rattle.cfdp_draw.specs.declared.chart.Moment.{Moment}
use Rattle.cfdp_draw.specs.declared.lanes.TheConstants.{TOP}

unfoldable pub free_after : ℕ → ℕ → ℕ
free_after x time = x + 7 * digits_of time + 10

abbrev pub is_other : Option ℕ → ℕ → Bool
is_other None time = true
is_other (Some last) time = not (last == time)

unfoldable pub is_time_written : ℕ → Option ℕ → ℕ → ℕ → Bool
is_time_written free last x time = is_other last time && nat_le free x

unfoldable pub time_text : ℕ → ℕ → ℕ → List ℕ
time_text bottom x time =
    grid_text (record { x = x; y = TOP }) (bottom + BASE)
    ++ number_shape (codes "plain") (record { x = x; y = bottom + 15 }) [] time

abbrev pub times_text : AxisPosition → ℕ → ℕ → Option ℕ → List Moment → List ℕ
times_text total bottom free last [] = []
times_text total bottom free last (moment ∷ rest) =
    if is_time_written free last (x_of total moment.at) moment.time
    then time_text bottom (x_of total moment.at) moment.time
    ++ times_text total bottom (free_after (x_of total moment.at) moment.time) (Some moment.time) rest
    else times_text total bottom free last rest
