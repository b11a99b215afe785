-- What `links` writes: each entry of the journal, in order, and then what the seats have, how long the journal is, and
-- all that is in the filestore.
--
--   entry_text       an entry: its index, from 0, the number of its seat, and the line of its reply
--   entry_texts      the entries from an index on
--   seat_text        a seat: its number, how many receipts it has, and how many PDUs of its file had no event
--   seat_texts       the seats, each with that number
--   journal_text     all of it
use Rattle.std.specs.Prelude.{ℕ, ◌+◌, List, [], ◌∷◌, ◌++◌, length, codes}
use Rattle.cfdp_transactions.specs.Events.{about}
use Rattle.cfdp_transactions.specs.World.{World}
use Rattle.cfdp_engine.specs.declared.journal_entry.JournalEntry.{JournalEntry}
use Rattle.cfdp_engine.specs.Seats.{Seated}
use Rattle.cfdp_texts.specs.Replies.{number_text, labelled, word, line, reply_line, listing_text}

abbrev pub entry_text : ℕ → JournalEntry → List ℕ
entry_text index entry = number_text index ++ labelled (codes " ") entry.seat
    ++ word (reply_line (about entry.event) entry.reply)

abbrev pub entry_texts : ℕ → List JournalEntry → List ℕ
entry_texts index [] = []
entry_texts index (entry ∷ entries) = entry_text index entry ++ entry_texts (index + 1) entries

abbrev pub seat_text : Seated → ℕ → List ℕ
seat_text seat dropped =
    line (labelled (codes "seat ") seat.number ++ labelled (codes " ") (length seat.receipts)
    ++ labelled (codes " dropped ") dropped)

abbrev pub seat_texts : List Seated → List ℕ → List ℕ
seat_texts (seat ∷ seats) (dropped ∷ others) = seat_text seat dropped ++ seat_texts seats others
seat_texts seats others = []

abbrev pub journal_text : List JournalEntry → List Seated → List ℕ → World → List ℕ
journal_text J seats dropped W =
    entry_texts 0 J ++ seat_texts seats dropped ++ line (labelled (codes "journal ") (length J)) ++ listing_text W
