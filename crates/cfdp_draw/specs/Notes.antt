-- The notes of a picture: what is refused, faulted or dropped, in words.
--     pointer_text              the number of a note in its lane
--     whose_text, said_text     the transaction of a note;  its words, after its time and its transaction
--     note_text                 the line of a note
--     others_text               how many notes are not written out
--     why_text, ending_text     that the run ended early, and why;  where it did
--     note_lines                how many lines of notes there are
--     notes_text                all lines, below the blocks
use Rattle.std.specs.Prelude.{ℕ, ◌+◌, ◌*◌, ◌==◌, min, if◌then◌else◌, List, [], ◌++◌, Option, Some, None, codes, flat_map, length}
use Rattle.cfdp_status.specs.declared.transaction.TransactionId.{TransactionId}
use Rattle.cfdp_draw.specs.Axis.{x_of}
use Rattle.cfdp_draw.specs.Lanes.{id_text, top_of}
use Rattle.cfdp_draw.specs.Shapes.{label_text, number_shape, text_closing, text_opening}
use Rattle.cfdp_draw.specs.Words.{escaped, labelled_number}
use Rattle.cfdp_draw.specs.declared.axis.AxisPosition.{AxisPosition}
use Rattle.cfdp_draw.specs.declared.chart.Chart.{Chart}
use Rattle.cfdp_draw.specs.declared.chart.Note.{Note}
use Rattle.cfdp_draw.specs.declared.chart.TheConstants.{MOST_NOTES}
use Rattle.cfdp_draw.specs.declared.notes.TheConstants.{LINE}

unfoldable pub pointer_text : AxisPosition → Note → List ℕ
pointer_text total note = number_shape (codes "note") (record { x = x_of total note.at; y = top_of note.lane + 89 }) []
    note.number

abbrev pub whose_text : Option TransactionId → List ℕ
whose_text None = []
whose_text (Some id) = codes ", " ++ id_text id

unfoldable pub said_text : Note → ℕ → List ℕ
said_text note y =
    text_opening (codes "plain") (record { x = 40; y = y }) ++ labelled_number (codes "at ") note.time
    ++ whose_text note.id
    ++ codes ": "
    ++ escaped note.words.items ++ text_closing

unfoldable pub note_text : Note → List ℕ
note_text note =
    number_shape (codes "note") (record { x = 10; y = LINE * note.number }) [] note.number
    ++ said_text note (LINE * note.number)

unfoldable pub others_text : ℕ → ℕ → List ℕ
others_text others y =
    if others == 0 then [] else number_shape (codes "note") (record { x = 10; y = y })
    (codes "notes that are left out: ") others

unfoldable pub why_text : List ℕ → ℕ → List ℕ
why_text why y =
    label_text (codes "note") (record { x = 10; y = y }) (codes "The run ends early:")
    ++ label_text (codes "note") (record { x = 160; y = y }) why

abbrev pub ending_by : List ℕ → ℕ → List ℕ
ending_by [] y = []
ending_by ending y = why_text ending y

unfoldable pub ending_text : List ℕ → ℕ → List ℕ
ending_text ending y = ending_by ending y

unfoldable pub note_lines : List Note → ℕ
note_lines notes = min (length notes) MOST_NOTES

unfoldable pub notes_text : Chart → ℕ → List ℕ
notes_text chart top =
    labelled_number (codes "<g transform=\"translate(0,") top ++ codes ")\">\n" ++ flat_map note_text chart.notes.items
    ++ others_text chart.others (LINE * note_lines chart.notes.items + 16)
    ++ ending_text chart.ending.items (LINE * note_lines chart.notes.items + 32)
    ++ codes "</g>\n"
