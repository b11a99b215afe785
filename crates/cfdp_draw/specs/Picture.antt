-- A whole picture.
--     bottom_of            where the lanes end
--     height_of            how high a picture is
--     plot_text            what is above the notes
--     picture_text         the picture of what was collected
use Rattle.std.specs.Prelude.{ℕ, ◌+◌, ◌*◌, min, List, ◌++◌, None, codes, flat_map, length}
use Rattle.cfdp_draw.specs.Axis.{axis_end}
use Rattle.cfdp_draw.specs.Blocks.{blocks_text}
use Rattle.cfdp_draw.specs.Lanes.{lane_text}
use Rattle.cfdp_draw.specs.Legend.{legend_text, opening_text}
use Rattle.cfdp_draw.specs.Notes.{note_lines, notes_text, pointer_text}
use Rattle.cfdp_draw.specs.Times.{times_text}
use Rattle.cfdp_draw.specs.declared.blocks.TheConstants.{BASE}
use Rattle.cfdp_draw.specs.declared.chart.Chart.{Chart}
use Rattle.cfdp_draw.specs.declared.chart.Lane.{Lane}
use Rattle.cfdp_draw.specs.declared.chart.TheConstants.{MOST_LANES}
use Rattle.cfdp_draw.specs.declared.lanes.TheConstants.{LANE, MARGIN, TOP}
use Rattle.cfdp_draw.specs.declared.notes.TheConstants.{LINE}

unfoldable pub bottom_of : List Lane → ℕ
bottom_of lanes = TOP + LANE * min (length lanes) MOST_LANES

unfoldable pub height_of : Chart → ℕ
height_of chart = bottom_of chart.lanes.items + BASE + LINE * note_lines chart.notes.items + 52

unfoldable pub plot_text : Chart → List ℕ
plot_text chart =
    times_text chart.here (bottom_of chart.lanes.items) 0 None chart.moments.items
    ++ flat_map (lane_text chart.here) chart.lanes.items
    ++ flat_map (pointer_text chart.here) chart.notes.items ++ blocks_text chart (bottom_of chart.lanes.items)

unfoldable pub picture_text : Chart → List ℕ
picture_text chart =
    opening_text (axis_end chart.here + MARGIN) (height_of chart) chart.title.items ++ legend_text ++ plot_text chart
    ++ notes_text chart (bottom_of chart.lanes.items + BASE + 14) ++ codes "</svg>\n"
