-- The marks of a picture.
--     is_in_words          marks of a kind have it in words
--     letter_text, cross_text         the letter in a mark;  the cross of what is dropped
--     words_text, kind_text           a kind in words;  where a mark has it
--     shape_text           all of these, after the outline
--     mark_opening         which way a mark goes, and where it is
--     mark_height          where the marks of a way are in a lane
--     mark_text            a mark
use Rattle.std.specs.Prelude.{ℕ, Bool, if◌then◌else◌, List, [], ◌++◌, codes}
use Rattle.cfdp_draw.specs.Axis.{has_words, has_data_words, x_of}
use Rattle.cfdp_draw.specs.MarkKinds.{kind_in_words, letter_of, outline_of, way_opening}
use Rattle.cfdp_draw.specs.Words.{escaped, labelled_number}
use Rattle.cfdp_draw.specs.declared.axis.AxisPosition.{AxisPosition}
use Rattle.cfdp_draw.specs.declared.chart.Mark.{Mark}
use Rattle.cfdp_draw.specs.declared.mark_kinds.MarkKind.{MarkKind}
use Rattle.cfdp_draw.specs.declared.mark_kinds.MarkKind.TheVariants.{FileData}
use Rattle.cfdp_draw.specs.declared.mark_kinds.Direction.{Direction}
use Rattle.cfdp_draw.specs.declared.mark_kinds.Direction.TheVariants.{Came, Dropped, Sent}
use Rattle.cfdp_draw.specs.declared.shapes.Point.{Point}

unfoldable pub is_in_words : AxisPosition → MarkKind → Bool
is_in_words total FileData = has_data_words total
is_in_words total _ = has_words total

unfoldable pub letter_text : MarkKind → List ℕ
letter_text kind = codes "<text class=\"letter\" x=\"7\" y=\"10\">" ++ letter_of kind ++ codes "</text>"

unfoldable pub cross_text : Direction → List ℕ
cross_text Dropped = codes "<path class=\"cross\" d=\"M1 0l12 13M13 0l-12 13\"/>"
cross_text Came = []
cross_text Sent = []

unfoldable pub words_text : MarkKind → List ℕ
words_text kind = codes "<text class=\"kind\" x=\"17\" y=\"11\">" ++ kind_in_words kind ++ codes "</text>"

unfoldable pub kind_text : Bool → MarkKind → List ℕ
kind_text named kind = if named then words_text kind else []

unfoldable pub shape_text : Bool → MarkKind → Direction → List ℕ
shape_text named kind direction =
    codes "<path d=\"" ++ outline_of kind ++ codes "\"/>" ++ letter_text kind ++ cross_text direction
    ++ kind_text named kind
    ++ codes "</g>\n"

unfoldable pub mark_opening : Direction → Point → List ℕ
mark_opening direction point =
    labelled_number (way_opening direction) point.x ++ labelled_number (codes ",") point.y ++ codes ")\">"

abbrev pub mark_height : Direction → ℕ
mark_height Came = 4
mark_height Dropped = 4
mark_height Sent = 64

unfoldable pub mark_text : AxisPosition → Mark → List ℕ
mark_text total mark =
    mark_opening mark.direction (record { x = x_of total mark.at; y = mark_height mark.direction }) ++ codes "<title>"
    ++ escaped mark.words.items ++ codes "</title>"
    ++ shape_text (is_in_words total mark.kind) mark.kind mark.direction
