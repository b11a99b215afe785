-- What each line of a script does, what a whole script writes, and where and why it stops.
--     Head, Play, ScriptStage   what the head says so far;  a receiving entity to which inputs come;  a script between
--                               two lines
--     script_at_first           before the first line
--     play_of stage             the head is over
--     head_changed, written     what a line does: the stage after it, and what it writes
--     unless wrong later        later, unless something is wrong
--     head_protected, put_node, put, put_file  what `protect` and `put` do
--     in_head word stage change     a line of the head, which is too late after it
--     moved, heard_at, asked    octets come, or other inputs, at a time;  a question is answered
--     clock_set                 the driver's clock was set
--     is_written, expected      a line is among those that were written last;  it has to be
--     command_obeyed files stage said  what a command does, where the files have these octets: the stage after it and
--                               what it writes, or why the script stops
--     line_step files stage line        the same of a line
--     answer files stage line           the stage after it and what it writes, unless the script stops there
--     why_from                          why several lines stop, if they do
use Rattle.std.specs.Prelude.{ℕ, nat_lt, Bool, true, false, if◌then◌else◌, List, [], ◌∷◌, ◌++◌, length, Option, Some, None, Result, Ok, Err, bytes_eq}
use Rattle.std.specs.List.{list_any}
use Rattle.cfdp_status.specs.declared.transaction.TransactionId.{TransactionId}
use Rattle.cfdp_paths.specs.Paths.{Path}
use Rattle.cfdp_actions.specs.Filestore.{Node, Directory, File, Filestore}
use Rattle.cfdp_lines.specs.Lines.{lines_of}
use Rattle.cfdp_texts.specs.Replies.{listing_text}
use Rattle.cfdp_transactions.specs.Config.{Config}
use Rattle.cfdp_transactions.specs.World.{World, start}
use Rattle.cfdp_receiver.specs.Heard.{heard}
use Rattle.cfdp_receiver.specs.State.{State, Input, CancelAsked, ClockMoved, begin}
use Rattle.cfdp_receiver.specs.declared.mib.Mib.{Mib}
use Rattle.cfdp_run.specs.Commands.{PutContent, Nothing, Octets, File as FileNamed, LineMeaning, Settings, Configure, Protect, PutDirectory, PutFile, Receive, Cancel, Pass, SetClock, Get, Gaps, Phase, ListAll, Expect, End, meaning_in}
use Rattle.cfdp_run.specs.Contents.{get_line}
use Rattle.cfdp_run.specs.Playing.{after_turns, heard_inputs, heard_text, most_timers, passing, played, settled_after}
use Rattle.cfdp_run.specs.Putting.{path_wrong, room_wrong, with_put}
use Rattle.cfdp_run.specs.Questions.{gaps_line, phase_line}
use Rattle.cfdp_run.specs.Settings.{default_mib}
use Rattle.cfdp_run.specs.Stops.{ScriptEnd, Ended, IsWrong, Unmet, Unread}
use Rattle.cfdp_run.specs.declared.run_commands.HeadProgress.{HeadProgress}
use Rattle.cfdp_run.specs.declared.run_commands.HeadProgress.TheVariants as progress
use Rattle.cfdp_run.specs.declared.words.FirstWord.{FirstWord}
use Rattle.cfdp_run.specs.declared.words.FirstWord.TheVariants as word
use Rattle.cfdp_run.specs.declared.wrong.Wrong.{Wrong}
use Rattle.cfdp_run.specs.declared.wrong.Wrong.TheVariants.{TooLate, TooManyProtected}

pub record Head : Type 0 where
  pub mib : Mib
  -- with what was put, and without a transaction; its configuration has the prefixes that are protected
  pub world : World
  pub has_begun : Bool  -- a `config`, `protect` or `put` came

pub record Play : Type 0 where
  pub state : State
  pub lines : List ℕ  -- what the last line wrote that was neither `expect` nor passed over

pub data ScriptStage : Type 0 where
  Preparing : Head → ScriptStage
  Playing : Play → ScriptStage

abbrev pub first_config : Config
first_config = record { entity = 2; blocks = 64; cap = 2400; checks = 2; journal = 1000; prefixes = [] }

abbrev pub first_head : Head
first_head = record { mib = default_mib; world = start first_config; has_begun = false }

abbrev pub script_at_first : ScriptStage
script_at_first = Preparing first_head

unfoldable pub begun : Head → Play
begun head = record { state = begin head.mib head.world; lines = [] }

abbrev pub play_of : ScriptStage → Play
play_of (Preparing head) = begun head
play_of (Playing play) = play

abbrev pub stage_filestore : ScriptStage → Filestore
stage_filestore (Preparing head) = head.world.filestore
stage_filestore (Playing play) = play.state.world.filestore

abbrev pub mib_of : ScriptStage → Mib
mib_of (Preparing head) = head.mib
mib_of (Playing play) = default_mib

abbrev pub progress_by : Bool → HeadProgress
progress_by true = progress.Begun
progress_by false = progress.Fresh

abbrev pub progress_of : ScriptStage → HeadProgress
progress_of (Preparing head) = progress_by head.has_begun
progress_of (Playing play) = progress.Playing

abbrev pub Step : Type 0
Step = Result (ScriptStage × List ℕ) ScriptEnd

abbrev pub head_changed : Result Head ScriptEnd → Step
head_changed (Ok head) = Ok (Preparing head, [])
head_changed (Err why) = Err why

abbrev pub written : Play → Step
written play = Ok (Playing play, play.lines)

abbrev pub unless : {A : Type 0} → Option Wrong → Result A ScriptEnd → Result A ScriptEnd
unless None later = later
unless (Some wrong) later = Err (IsWrong wrong)

-- ---- the head

unfoldable pub with_mib : Head → Mib → Head
with_mib head mib = record head { mib = mib }

-- it comes before each `protect` and `put`
unfoldable pub with_config : Head → Config → Head
with_config head config = record head {
  world = start (record config { prefixes = head.world.config.prefixes });
  has_begun = true;
}

abbrev pub world_with_prefix : World → Path → World
world_with_prefix W p = record W { config = record W.config { prefixes = W.config.prefixes ++ p ∷ [] } }

-- at most 8
unfoldable pub head_protected : Head → Path → Result Head ScriptEnd
head_protected head p =
    if nat_lt (length head.world.config.prefixes) 8 then Ok
    (record head { world = world_with_prefix head.world p; has_begun = true })
    else Err (IsWrong TooManyProtected)

unfoldable pub put_node : Head → Path → Node → Result Head ScriptEnd
put_node head p node = unless (room_wrong head.world p node)
    (Ok (record head { world = with_put head.world p node; has_begun = true }))

unfoldable pub put : Head → Path → Node → Result Head ScriptEnd
put head p node = unless (path_wrong head.world.filestore p) (put_node head p node)

abbrev pub put_read : Head → Path → (name : List ℕ) → Option (List ℕ) → Result Head ScriptEnd
put_read head p name None = Err (Unread name)
put_read head p name (Some octets) = put_node head p (File octets)

abbrev pub put_content : (List ℕ → Option (List ℕ)) → Head → Path → PutContent → Result Head ScriptEnd
put_content files head p Nothing = put_node head p (File [])
put_content files head p (Octets octets) = put_node head p (File octets)
put_content files head p (FileNamed name) = put_read head p name (files name)

-- a file is read only where something can be put at the path
abbrev pub put_file : (List ℕ → Option (List ℕ)) → Head → Path → PutContent → Result Head ScriptEnd
put_file files head p content = unless (path_wrong head.world.filestore p) (put_content files head p content)

abbrev pub in_head : FirstWord → ScriptStage → (Head → Result Head ScriptEnd) → Step
in_head word (Preparing head) change = head_changed (change head)
in_head word (Playing play) change = Err (IsWrong (TooLate word))

-- ---- after the head

abbrev pub moved : Play → List Input → Play
moved play inputs = record { state = after_turns play.state inputs; lines = played play.state inputs }

unfoldable pub heard_at : Play → (now : ℕ) → List ℕ → Play
heard_at play now octets = record {
  state = after_turns play.state (heard_inputs now play.state (heard now octets));
  lines = heard_text now play.state (heard now octets);
}

unfoldable pub cancelled_at : Play → (now : ℕ) → TransactionId → Play
cancelled_at play now id = moved play (settled_after now play.state (CancelAsked now id))

unfoldable pub passed_at : Play → (now : ℕ) → Play
passed_at play now = moved play (passing most_timers now play.state)

unfoldable pub clock_set : Play → (now : ℕ) → Play
clock_set play now = moved play (ClockMoved now ∷ [])

unfoldable pub asked : Play → List ℕ → Play
asked play lines = record play { lines = lines }

unfoldable pub is_written : List ℕ → (line : List ℕ) → Bool
is_written lines line = list_any (λ one. bytes_eq one line) (lines_of lines)

abbrev pub expected : Play → List ℕ → Step
expected play line = if is_written play.lines line then Ok (Playing play, []) else Err (Unmet line)

-- ---- lines

abbrev pub command_obeyed : (List ℕ → Option (List ℕ)) → ScriptStage → LineMeaning → Step
command_obeyed files stage (Settings mib) = in_head word.Mib stage (λ head. Ok (with_mib head mib))
command_obeyed files stage (Configure config) = in_head word.Config stage (λ head. Ok (with_config head config))
command_obeyed files stage (Protect p) = in_head word.Protect stage (λ head. head_protected head p)
command_obeyed files stage (PutDirectory p) = in_head word.Put stage (λ head. put head p Directory)
command_obeyed files stage (PutFile p content) = in_head word.Put stage (λ head. put_file files head p content)
command_obeyed files stage (Receive now octets) = written (heard_at (play_of stage) now octets)
command_obeyed files stage (Cancel now id) = written (cancelled_at (play_of stage) now id)
command_obeyed files stage (Pass now) = written (passed_at (play_of stage) now)
command_obeyed files stage (SetClock now) = written (clock_set (play_of stage) now)
command_obeyed files stage (Get p) = written (asked (play_of stage) (get_line (play_of stage).state.world.filestore p))
command_obeyed files stage (Gaps id) = written (asked (play_of stage) (gaps_line (play_of stage).state id))
command_obeyed files stage (Phase id) = written (asked (play_of stage) (phase_line (play_of stage).state id))
command_obeyed files stage ListAll = written (asked (play_of stage) (listing_text (play_of stage).state.world))
command_obeyed files stage (Expect line) = expected (play_of stage) line
command_obeyed files stage End = Err Ended

-- a comment and a line without a word are passed over
abbrev pub said_step : (List ℕ → Option (List ℕ)) → ScriptStage → Result (Option LineMeaning) Wrong → Step
said_step files stage (Err wrong) = Err (IsWrong wrong)
said_step files stage (Ok None) = Ok (stage, [])
said_step files stage (Ok (Some said)) = command_obeyed files stage said

abbrev pub line_step : (List ℕ → Option (List ℕ)) → ScriptStage → List ℕ → Step
line_step files stage line = said_step files stage (meaning_in (mib_of stage) (progress_of stage) line)

-- ---- whole scripts

abbrev pub ok_in : Step → Option (ScriptStage × List ℕ)
ok_in (Ok done) = Some done
ok_in (Err why) = None

abbrev pub answer : (List ℕ → Option (List ℕ)) → ScriptStage → List ℕ → Option (ScriptStage × List ℕ)
answer files stage line = ok_in (line_step files stage line)

abbrev pub why_by : Step → (ScriptStage → Option ScriptEnd) → Option ScriptEnd
why_by (Ok done) later = later done.0
why_by (Err why) later = Some why

abbrev pub why_from : (List ℕ → Option (List ℕ)) → ScriptStage → List (List ℕ) → Option ScriptEnd
why_from files stage [] = None
why_from files stage (line ∷ lines) = why_by (line_step files stage line) (λ next. why_from files next lines)
