-- What a picture begins with.
--     size_text, ground_text   the size of a picture;  its style, and its ground
--     opening_text             these, and its title
--     way_entry, kind_entry, phase_entry     what a way, a kind and a phase look like
--     colour_entry             a colour
--     way_meanings             what the ways mean
--     band_entry, band_meanings    a colour of a band, and what it means;  all of them
--     legend_text              what marks and colours mean
use Rattle.std.specs.Prelude.{ℕ, ◌+◌, true, false, List, [], ◌++◌, codes, flat_map}
use Rattle.cfdp_draw.specs.MarkKinds.{phase_words}
use Rattle.cfdp_draw.specs.Marks.{mark_opening, shape_text}
use Rattle.cfdp_draw.specs.Shapes.{label_text, rect_text}
use Rattle.cfdp_draw.specs.Words.{labelled_number}
use Rattle.cfdp_draw.specs.declared.mark_kinds.MarkKind.{MarkKind}
use Rattle.cfdp_draw.specs.declared.mark_kinds.MarkKind.TheVariants.{Eof}
use Rattle.cfdp_draw.specs.declared.mark_kinds.DrawnPhase.{DrawnPhase}
use Rattle.cfdp_draw.specs.declared.mark_kinds.Direction.{Direction}
use Rattle.cfdp_draw.specs.declared.mark_kinds.Direction.TheVariants.{Came}
use Rattle.cfdp_draw.specs.declared.legend.TheConstants.{FILE, FIRST, KINDS, PHASES, STYLE, WAYS}

unfoldable pub size_text : ℕ → ℕ → List ℕ
size_text width height = FIRST.now ++ labelled_number (codes "\" width=\"") width ++ labelled_number
    (codes "\" height=\"") height

unfoldable pub ground_text : ℕ → ℕ → List ℕ
ground_text width height = STYLE.now ++ labelled_number [] width ++ labelled_number (codes "v") height
    ++ codes "H0z\"/>\n"

unfoldable pub opening_text : ℕ → ℕ → List ℕ → List ℕ
opening_text width height title =
    size_text width height ++ ground_text width height ++ label_text (codes "title") (record { x = 10; y = 26 }) title

unfoldable pub way_entry : Direction × ℕ → List ℕ
way_entry entry = mark_opening entry.0 (record { x = entry.1; y = 42 }) ++ shape_text false Eof entry.0

unfoldable pub kind_entry : MarkKind × ℕ → List ℕ
kind_entry entry = mark_opening Came (record { x = entry.1; y = 42 }) ++ shape_text true entry.0 Came

unfoldable pub colour_entry : List ℕ → ℕ → ℕ → List ℕ
colour_entry class x width = rect_text class (record { x = x; y = 66; width = width; height = 13 })

unfoldable pub phase_entry : DrawnPhase × ℕ → List ℕ
phase_entry entry =
    colour_entry (phase_words entry.0) entry.1 70 ++ label_text (codes "kind") (record { x = entry.1 + 3; y = 76 })
    (phase_words entry.0)

unfoldable pub way_meanings : List ℕ
way_meanings =
    label_text (codes "plain") (record { x = 10; y = 53 }) (codes "came")
    ++ label_text (codes "plain") (record { x = 74; y = 53 }) (codes "sent")
    ++ label_text (codes "plain") (record { x = 134; y = 53 }) (codes "dropped")

unfoldable pub band_entry : List ℕ → ℕ → List ℕ → List ℕ
band_entry class x words = colour_entry class x 24 ++ label_text (codes "plain") (record { x = x + 30; y = 77 }) words

unfoldable pub band_meanings : List ℕ
band_meanings =
    band_entry (codes "file") 420 FILE.now ++ band_entry (codes "gap") 850 (codes "gap")
    ++ band_entry (codes "band") 930 (codes "not there yet")

unfoldable pub legend_text : List ℕ
legend_text = way_meanings ++ flat_map way_entry WAYS ++ flat_map kind_entry KINDS ++ flat_map phase_entry PHASES
    ++ band_meanings
