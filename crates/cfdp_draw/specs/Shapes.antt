-- Elements of a picture, as text.
--     area_text, rect_text           the attributes of an area;  a rectangle
--     text_opening, text_closing     what is before the words of a text, and after them
--     label_text, number_shape       a text;  a number with a label before it
--     line_text, grid_text           a line to the right, and one that goes down
use Rattle.std.specs.Prelude.{ℕ, List, ◌++◌, codes}
use Rattle.cfdp_draw.specs.Words.{escaped, labelled_number}
use Rattle.cfdp_draw.specs.declared.shapes.Area.{Area}
use Rattle.cfdp_draw.specs.declared.shapes.Point.{Point}

unfoldable pub area_text : Area → List ℕ
area_text area =
    labelled_number (codes "\" x=\"") area.x ++ labelled_number (codes "\" y=\"") area.y ++ labelled_number
    (codes "\" width=\"") area.width
    ++ labelled_number (codes "\" height=\"") area.height

unfoldable pub rect_text : List ℕ → Area → List ℕ
rect_text class area = codes "<rect class=\"" ++ class ++ area_text area ++ codes "\"/>\n"

unfoldable pub text_opening : List ℕ → Point → List ℕ
text_opening class point =
    codes "<text class=\"" ++ class ++ labelled_number (codes "\" x=\"") point.x ++ labelled_number
    (codes "\" y=\"") point.y
    ++ codes "\">"

abbrev pub text_closing : List ℕ
text_closing = codes "</text>\n"

unfoldable pub label_text : List ℕ → Point → List ℕ → List ℕ
label_text class point words = text_opening class point ++ escaped words ++ text_closing

unfoldable pub number_shape : List ℕ → Point → List ℕ → ℕ → List ℕ
number_shape class point label number = text_opening class point ++ labelled_number label number ++ text_closing

unfoldable pub line_text : Point → ℕ → List ℕ
line_text from to =
    labelled_number (codes "<path class=\"line\" d=\"M") from.x ++ labelled_number (codes " ") from.y ++ labelled_number
    (codes "H") to
    ++ codes "\"/>\n"

unfoldable pub grid_text : Point → ℕ → List ℕ
grid_text from to =
    labelled_number (codes "<path class=\"grid\" d=\"M") from.x ++ labelled_number (codes " ") from.y ++ labelled_number
    (codes "V") to
    ++ codes "\"/>\n"
