-- What a script writes, and how it ends.
--
--   Report           a text, and the number of the bad line that ended it, if one did
--   empty_report     the report of no lines
--   stopped_at       the report of a bad line
--   wrote            a report with some text before it
--   line_answer      what one line does: the state after it and its text, or nothing where it is bad
--   and_then_report  the report of a line and those after it
--   report           the report of a list of lines
--   script_report    the report of a script's octets, from its first line on
--   limited_report   the report of those of its lines that are run: all, unless it is longer than the input limit
--
-- A kind of script is a state and an `answer`: what a line does that is neither overlong nor a comment.
use Rattle.std.specs.Prelude.{ℕ, ◌+◌, if◌then◌else◌, List, [], ◌∷◌, ◌++◌, Option, Some, None}
use Rattle.cfdp_lines.specs.Lines.{is_overlong, is_comment, lines_of, limited_lines}

pub record Report : Type 0 where
  pub text : List ℕ
  pub bad_line : Option ℕ

-- the whole script was run, and nothing more is written
abbrev pub empty_report : Report
empty_report = record { text = []; bad_line = None }

-- the line of this number is bad, and nothing more is written
abbrev pub stopped_at : ℕ → Report
stopped_at number = record { text = []; bad_line = Some number }

-- some text, and then what a report says
abbrev pub wrote : List ℕ → Report → Report
wrote text later = record { text = text ++ later.text; bad_line = later.bad_line }

-- an overlong line is bad, even a comment; another comment is passed over
abbrev pub line_answer : {State X : Type 0} → (State → List ℕ → Option (State × List X)) → State → List ℕ →
    Option (State × List X)
line_answer answer state line =
    if is_overlong line then None
    else if is_comment line then Some (state, [])
    else answer state line

-- what the line of this number gives, and then what the later lines report
abbrev pub and_then_report : {State : Type 0} → ℕ → Option (State × List ℕ) → (State → Report) → Report
and_then_report number None later = stopped_at number
and_then_report number (Some answered) later = wrote answered.1 (later answered.0)

-- the first of these lines has this number; the first bad line ends the report
abbrev pub report : {State : Type 0} → (State → List ℕ → Option (State × List ℕ)) → ℕ → State → List (List ℕ) → Report
report answer number state [] = empty_report
report answer number state (line ∷ lines) =
    and_then_report number (line_answer answer state line) (λ after. report answer (number + 1) after lines)

-- lines count from 1
abbrev pub script_report : {State : Type 0} → (State → List ℕ → Option (State × List ℕ)) → State → List ℕ → Report
script_report answer start octets = report answer 1 start (lines_of octets)

-- of a script longer than the limit, what can be reported from as many octets as the limit
abbrev pub limited_report : {State : Type 0} → (State → List ℕ → Option (State × List ℕ)) → State → List ℕ → Report
limited_report answer start octets = report answer 1 start (limited_lines octets)
