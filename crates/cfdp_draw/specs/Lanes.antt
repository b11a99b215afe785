-- The lanes of a picture. Where something is in a lane is counted from the lane's top.
--     span_of                       a part of the time axis
--     until_phase, until_file       where a change ends: where the next one begins
--     phase_label, phase_shape      the name of a phase where there is room for it, or its first letter;  a phase
--     phases_text                   the phases of a transaction
--     end_text                      the octets of a file up to an offset: the first are at the bottom
--     gap_text                      a gap, 1 pixel high at least
--     received_text, file_text      what was received of a file;  what is there of it
--     files_text                    how a file fills
--     id_text, title_text           the name of a transaction;  at the left of its lane, in two lines where it is long
--     lane_name_text                the name of a lane, and of its file, with its size
--     top_of, lane_opening          the top of a lane;  where it is, and the line above it
--     lane_text                     a lane
use Rattle.std.specs.Prelude.{ℕ, ◌+◌, ◌-◌, ◌*◌, ◌==◌, nat_le, nat_lt, min, max, if◌then◌else◌, List, [], ◌∷◌, ◌++◌, Option, Some, None, codes, flat_map}
use Rattle.cfdp_status.specs.declared.transaction.TransactionId.{TransactionId}
use Rattle.cfdp_draw.specs.Axis.{level_of, axis_end, x_of}
use Rattle.cfdp_draw.specs.MarkKinds.{phase_letter, phase_words}
use Rattle.cfdp_draw.specs.Marks.{mark_text}
use Rattle.cfdp_draw.specs.Shapes.{label_text, line_text, number_shape, rect_text, text_closing, text_opening}
use Rattle.cfdp_draw.specs.Words.{digits_of, labelled_number}
use Rattle.cfdp_draw.specs.declared.axis.AxisPosition.{AxisPosition}
use Rattle.cfdp_draw.specs.declared.chart.FileChange.{FileChange}
use Rattle.cfdp_draw.specs.declared.chart.Lane.{Lane}
use Rattle.cfdp_draw.specs.declared.chart.PhaseChange.{PhaseChange}
use Rattle.cfdp_draw.specs.declared.chart.Received.{Received}
use Rattle.cfdp_draw.specs.declared.mark_kinds.DrawnPhase.{DrawnPhase}
use Rattle.cfdp_draw.specs.declared.lanes.Span.{Span}
use Rattle.cfdp_draw.specs.declared.lanes.TheConstants.{BAND, BAND_HEIGHT, LANE, MARGIN, PHASES, PHASE_HEIGHT, TOP}

unfoldable pub span_of : AxisPosition → AxisPosition → AxisPosition → Span
span_of total from to = record { x = x_of total from; width = x_of total to - x_of total from }

abbrev pub until_phase : AxisPosition → List PhaseChange → AxisPosition
until_phase total [] = total
until_phase total (next ∷ rest) = next.at

unfoldable pub phase_label : DrawnPhase → Span → List ℕ
phase_label phase s =
    if nat_le 58 s.width then label_text (codes "kind") (record { x = s.x + 3; y = 59 }) (phase_words phase)
    else if nat_le 11 s.width then label_text (codes "kind") (record { x = s.x + 3; y = 59 }) (phase_letter phase)
    else []

unfoldable pub phase_shape : Option DrawnPhase → Span → List ℕ
phase_shape None s = []
phase_shape (Some phase) s =
    rect_text (phase_words phase) (record { x = s.x; y = PHASES; width = s.width; height = PHASE_HEIGHT })
    ++ phase_label phase s

abbrev pub phases_text : AxisPosition → List PhaseChange → List ℕ
phases_text total [] = []
phases_text total (change ∷ rest) = phase_shape change.phase (span_of total change.at (until_phase total rest))
    ++ phases_text total rest

unfoldable pub end_text : ℕ → ℕ → Span → List ℕ
end_text size end s =
    if end == 0 then []
    else let high = max (level_of BAND_HEIGHT end size) 1 in
    rect_text (codes "file") (record { x = s.x; y = 48 - high; width = s.width; height = high })

unfoldable pub gap_text : ℕ → ℕ → Span → ℕ × ℕ → List ℕ
gap_text size end s gap =
    if nat_le end gap.0 then []
    else let low = min (level_of BAND_HEIGHT gap.0 size) 27 in
    let high = max (level_of BAND_HEIGHT (min gap.1 end) size) (low + 1) in
    rect_text (codes "gap") (record { x = s.x; y = 48 - high; width = s.width; height = high - low })

unfoldable pub received_text : ℕ → Span → Received → List ℕ
received_text size s received =
    rect_text (codes "band") (record { x = s.x; y = BAND; width = s.width; height = BAND_HEIGHT })
    ++ end_text size received.end s
    ++ flat_map (gap_text size received.end s) received.gaps.items

abbrev pub file_text : ℕ → Span → Option Received → List ℕ
file_text size s None = []
file_text size s (Some received) = received_text size s received

abbrev pub until_file : AxisPosition → List FileChange → AxisPosition
until_file total [] = total
until_file total (next ∷ rest) = next.at

abbrev pub files_text : AxisPosition → ℕ → List FileChange → List ℕ
files_text total size [] = []
files_text total size (change ∷ rest) = file_text size (span_of total change.at (until_file total rest)) change.received
    ++ files_text total size rest

unfoldable pub id_text : TransactionId → List ℕ
id_text id = labelled_number [] id.source ++ labelled_number (codes "/") id.number

unfoldable pub title_text : TransactionId → List ℕ
title_text id =
    if nat_lt 12 (digits_of id.source + digits_of id.number)
    then number_shape (codes "plain") (record { x = 10; y = 14 }) [] id.source
    ++ number_shape (codes "plain") (record { x = 10; y = 27 }) (codes "/") id.number
    else text_opening (codes "id") (record { x = 10; y = 22 }) ++ id_text id ++ text_closing

abbrev pub name_by : Option TransactionId → Lane → List ℕ
name_by None lane = label_text (codes "id") (record { x = 10; y = 22 }) (codes "no transaction")
name_by (Some id) lane =
    title_text id ++ label_text (codes "plain") (record { x = 10; y = 40 }) lane.file.items
    ++ number_shape (codes "plain") (record { x = 10; y = 54 }) (codes "octets: ") lane.size

unfoldable pub lane_name_text : Lane → List ℕ
lane_name_text lane = name_by lane.id lane

unfoldable pub top_of : ℕ → ℕ
top_of lane = TOP + LANE * lane

unfoldable pub lane_opening : AxisPosition → ℕ → List ℕ
lane_opening total index =
    labelled_number (codes "<g transform=\"translate(0,") (top_of index) ++ codes ")\">\n"
    ++ line_text (record { x = 0; y = 0 }) (axis_end total + MARGIN)

unfoldable pub lane_text : AxisPosition → Lane → List ℕ
lane_text total lane =
    lane_opening total lane.index ++ lane_name_text lane ++ files_text total lane.size lane.files.items
    ++ phases_text total lane.phases.items
    ++ flat_map (mark_text total) lane.marks.items ++ codes "</g>\n"
