-- The blocks of the filestore, below the lanes of a picture.
--     line_opening          the beginning of a line, with its class
--     amount                how many blocks a line shows
--     level_text            how high it is from here on
--     step_text             a step: it goes to a moment, and from there on it is as high as the blocks are after it
--     path_text             a line
--     scale_text            what the blocks are measured by: the size of the filestore is the upper line
--     colour_text           a line's colour, and what it means
--     blocks_meaning        what the lines mean, and the most blocks that were taken
--     blocks_text           all of these
use Rattle.std.specs.Prelude.{ℕ, ◌+◌, ◌-◌, List, [], ◌++◌, codes, flat_map}
use Rattle.cfdp_draw.specs.Axis.{level_of, axis_end, x_of}
use Rattle.cfdp_draw.specs.Shapes.{label_text, line_text, number_shape, rect_text}
use Rattle.cfdp_draw.specs.Words.{labelled_number}
use Rattle.cfdp_draw.specs.declared.axis.AxisPosition.{AxisPosition}
use Rattle.cfdp_draw.specs.declared.axis.TheConstants.{LEFT}
use Rattle.cfdp_draw.specs.declared.blocks.Line.{Line}
use Rattle.cfdp_draw.specs.declared.blocks.Line.TheVariants.{Used, Taken}
use Rattle.cfdp_draw.specs.declared.blocks.TheConstants.{BASE, HEIGHT}
use Rattle.cfdp_draw.specs.declared.chart.Blocks.{Blocks}
use Rattle.cfdp_draw.specs.declared.chart.Chart.{Chart}
use Rattle.cfdp_draw.specs.declared.chart.Moment.{Moment}
use Rattle.cfdp_draw.specs.declared.lanes.TheConstants.{MARGIN}

unfoldable pub line_opening : Line → List ℕ
line_opening Used = codes "<path class=\"used\" d=\"M150 114"
line_opening Taken = codes "<path class=\"reserved\" d=\"M150 114"

unfoldable pub amount : Line → Blocks → ℕ
amount Used blocks = blocks.used
amount Taken blocks = blocks.used + blocks.reserved

unfoldable pub level_text : Line → ℕ → Blocks → List ℕ
level_text line size blocks = labelled_number (codes "V") (BASE - level_of HEIGHT (amount line blocks) size)

unfoldable pub step_text : Line → AxisPosition → ℕ → Moment → List ℕ
step_text line total size moment = labelled_number (codes "H") (x_of total moment.at)
    ++ level_text line size moment.blocks

unfoldable pub path_text : Line → Chart → List ℕ
path_text line chart =
    line_opening line ++ level_text line chart.size chart.first
    ++ flat_map (step_text line chart.here chart.size) chart.moments.items
    ++ labelled_number (codes "H") (axis_end chart.here) ++ codes "V114z\"/>\n"

unfoldable pub scale_text : AxisPosition → ℕ → List ℕ
scale_text total size =
    label_text (codes "plain") (record { x = 10; y = 15 }) (codes "time")
    ++ line_text (record { x = LEFT; y = 34 }) (axis_end total)
    ++ line_text (record { x = LEFT; y = BASE }) (axis_end total)
    ++ number_shape (codes "end") (record { x = 144; y = 38 }) (codes "of ") size
    ++ number_shape (codes "end") (record { x = 144; y = 118 }) [] 0

unfoldable pub colour_text : List ℕ → ℕ → List ℕ
colour_text words y =
    rect_text words (record { x = 10; y = y; width = 12; height = 10 })
    ++ label_text (codes "plain") (record { x = 27; y = y + 9 }) words

unfoldable pub blocks_meaning : ℕ → List ℕ
blocks_meaning most =
    label_text (codes "id") (record { x = 10; y = 52 }) (codes "blocks") ++ colour_text (codes "used") 60
    ++ colour_text (codes "reserved") 76
    ++ number_shape (codes "plain") (record { x = 10; y = 103 }) (codes "both, at most: ") most

unfoldable pub blocks_text : Chart → ℕ → List ℕ
blocks_text chart bottom =
    labelled_number (codes "<g transform=\"translate(0,") bottom ++ codes ")\">\n"
    ++ line_text (record { x = 0; y = 0 }) (axis_end chart.here + MARGIN)
    ++ path_text Taken chart ++ path_text Used chart ++ scale_text chart.here chart.size ++ blocks_meaning chart.most
    ++ codes "</g>\n"
