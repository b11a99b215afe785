-- Where things are in a picture, in pixels.
--     has_words            there is room for the kind of each mark in words
--     pitch                how wide a mark is
--     room                 what is left for the moments
--     x_of total at        where a position of the time axis is
--     axis_end             the end of the axis
--     has_data_words       there is room for the words of File Data PDUs too
--     level_of             how high a part of a whole is
--     TimeGoesRight, StaysInside      what is later is not further left;  all is between the ends of the axis
use Rattle.std.specs.Prelude.{ℕ, ◌+◌, ◌-◌, ◌*◌, ◌/◌, ◌≤◌, ◌==◌, ◌&&◌, Bool, nat_le, min, max, if◌then◌else◌}
use Rattle.cfdp_draw.specs.declared.axis.AxisPosition.{AxisPosition}
use Rattle.cfdp_draw.specs.declared.axis.TheConstants.{LEFT, AXIS, WORDED, LETTERED, MOMENT}

unfoldable pub has_words : AxisPosition → Bool
has_words total = nat_le (WORDED * total.wide_marks + MOMENT * total.moments) AXIS

unfoldable pub pitch : AxisPosition → ℕ
pitch total = if has_words total then WORDED else LETTERED

unfoldable pub room : AxisPosition → ℕ
room total = max (AXIS - pitch total * total.wide_marks) total.moments

unfoldable pub has_data_words : AxisPosition → Bool
has_data_words total = has_words total && nat_le (WORDED * total.moments) (room total)

unfoldable pub level_of : ℕ → ℕ → ℕ → ℕ
level_of height part whole = if whole == 0 then 0 else height * min part whole / whole

unfoldable pub axis_end : AxisPosition → ℕ
axis_end total = LEFT + pitch total * total.wide_marks + room total

unfoldable pub x_of : AxisPosition → AxisPosition → ℕ
x_of total at = LEFT + pitch total * min at.wide_marks total.wide_marks + level_of (room total) at.moments total.moments

abbrev pub TimeGoesRight : Type 0
TimeGoesRight = (total a b : AxisPosition) → a.moments ≤ b.moments → a.wide_marks ≤ b.wide_marks →
    x_of total a ≤ x_of total b

abbrev pub StaysInside : Type 0
StaysInside = (total at : AxisPosition) → (LEFT ≤ x_of total at) × (x_of total at ≤ axis_end total)
