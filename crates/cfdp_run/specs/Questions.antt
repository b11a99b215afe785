-- What a script asks, and what `cfdp run` writes then.
--     range_text range          a range of octets: its start, and the first offset after it
--     whole_of size             what is missing of a transaction whose EOF PDU is held
--     missing_at W id stage     the ranges that a NAK PDU would ask for now
--     ranges_text ranges        several, or that there is none
--     gaps_text, gaps_line      what is written of a question for what is missing
--     phase_text, core_word     how far a transaction of the core is, in a word
--     stage_word, name_word     how far one with a session is;  one without
--     phase_word, phase_line    what is written of a question for it
use Rattle.std.specs.Prelude.{ℕ, ◌==◌, if◌then◌else◌, List, [], ◌∷◌, ◌++◌, length, Option, Some, None, codes, flat_map}
use Rattle.cfdp_status.specs.Transaction.{transaction_name}
use Rattle.cfdp_status.specs.declared.transaction.TransactionId.{TransactionId}
use Rattle.cfdp_texts.specs.Replies.{line, labelled}
use Rattle.cfdp_transactions.specs.Entry.{Entry}
use Rattle.cfdp_transactions.specs.World.{World, entry_of}
use Rattle.cfdp_transactions.specs.declared.phase.Phase.{Phase}
use Rattle.cfdp_transactions.specs.declared.phase.Phase.TheVariants.{Receiving, Awaiting}
use Rattle.cfdp_directives.specs.declared.ack.TransactionStatus.{TransactionStatus}
use Rattle.cfdp_directives.specs.declared.ack.TransactionStatus.TheVariants.{Terminated}
use Rattle.cfdp_sessions.specs.Sessions.{SessionFields}
use Rattle.cfdp_sessions.specs.declared.session.Stage.{Stage}
use Rattle.cfdp_sessions.specs.declared.session.Stage.TheVariants.{Held, Known, Over, Waiting}
use Rattle.cfdp_receiver.specs.State.{State, session_of, status_of}
use Rattle.cfdp_receiver.specs.Turning.{gaps_at}

abbrev pub range_text : ℕ × ℕ → List ℕ
range_text range = labelled (codes " ") range.0 ++ labelled (codes "-") range.1

-- all of the file, where its EOF PDU is held
abbrev pub whole_of : ℕ → List (ℕ × ℕ)
whole_of size = if size == 0 then [] else (0, size) ∷ []

abbrev pub missing_at : World → TransactionId → Stage → List (ℕ × ℕ)
missing_at W id (Held eof) = whole_of eof.size
missing_at W id Known = gaps_at (entry_of W id)
missing_at W id (Over ending) = []
missing_at W id Waiting = []

abbrev pub ranges_text : List (ℕ × ℕ) → List ℕ
ranges_text ranges = if length ranges == 0 then codes " none" else flat_map range_text ranges

abbrev pub gaps_text : World → TransactionId → Option SessionFields → List ℕ
gaps_text W id None = codes " unknown"
gaps_text W id (Some s) = ranges_text (missing_at W id s.stage)

abbrev pub gaps_line : State → TransactionId → List ℕ
gaps_line R id = line (transaction_name id ++ codes " gaps" ++ gaps_text R.world id (session_of R id))

-- Those that are left once all is settled have words of their own.
abbrev pub phase_text : Phase → List ℕ
phase_text Receiving = codes "receiving"
phase_text (Awaiting checks) = codes "awaiting"
phase_text phase = codes "other"

abbrev pub core_word : Option Entry → List ℕ
core_word None = codes "other"
core_word (Some entry) = phase_text entry.phase

abbrev pub stage_word : World → TransactionId → Stage → List ℕ
stage_word W id (Held eof) = codes "held"
stage_word W id Known = core_word (entry_of W id)
stage_word W id (Over ending) = codes "over"
stage_word W id Waiting = codes "waiting"

abbrev pub name_word : TransactionStatus → List ℕ
name_word Terminated = codes "closed"
name_word status = codes "unknown"

abbrev pub phase_word : State → TransactionId → Option SessionFields → List ℕ
phase_word R id None = name_word (status_of R id)
phase_word R id (Some s) = stage_word R.world id s.stage

abbrev pub phase_line : State → TransactionId → List ℕ
phase_line R id = line (transaction_name id ++ codes " phase " ++ phase_word R id (session_of R id))
