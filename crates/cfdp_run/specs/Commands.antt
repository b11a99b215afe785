-- What a line of a script says, by its octets, the settings before it, and how far the head of the script is. Its texts
-- are its words.
--     FileContent, LineMeaning  what a file holds that the filestore begins with;  what a line says: a command, with
--                               octets as lists
--     content_of, command_meaning  the same of a value of the program
--     setting mib text          the settings with the one that a word `KEY=VALUE` writes
--     settings_in mib texts     the same of one or more words, from the left
--     config_in progress numbers        the configuration of five numbers
--     only_path word texts      the path that is the only text
--     only_name word texts      the transaction that the two texts name
--     octets_spelled texts      the octets that one or more texts of hexadecimal spell, at least one, if each does
--     put_in, at_in, line_in, says_alone  what the texts after `put` say;  after `at`;  after `expect`;
--                                       that there is none
--     says mib progress word texts      what the texts after a word say, or what is wrong with them
--     meaning_in mib progress line      what a line says; nothing of a comment and of a line without a word; or the
--                                       first of its faults:
--                               longer than 200,000 octets (TooLong); no word that begins a line (UnknownWord); a line
--                               of the head after the head (TooLate); not of its form (Expected); another one
--     IfWrong, OnMemory         what holds of what is wrong, if it is that;  what holds where it is out of memory
--     asks_memory               memory is asked for before what a line says is known
use Rattle.std.specs.Prelude.{⊤, ℕ, ◌+◌, ◌-◌, ◌==◌, ◌&&◌, Bool, true, false, if◌then◌else◌, List, [], ◌∷◌, length, slice_index, take, drop, position, Option, Some, None, option_map, option_and_then, Result, Ok, Err, codes, bytes_eq}
use Rattle.std.specs.Option.{ok_or, option_map_or}
use Rattle.std.specs.List.{join_with_byte}
use Rattle.cfdp_status.specs.declared.transaction.TransactionId.{TransactionId}
use Rattle.cfdp_tlv.specs.Reading.{◌>>=◌}
use Rattle.cfdp_paths.specs.Paths.{Path, is_slash, path_of}
use Rattle.cfdp_transactions.specs.Config.{Config, config_fault}
use Rattle.cfdp_transactions.specs.declared.config.ConfigFault.{ConfigFault}
use Rattle.cfdp_lines.specs.Hexadecimal.{octets_of_words}
use Rattle.cfdp_lines.specs.Lines.{is_comment, is_overlong}
use Rattle.cfdp_lines.specs.Words.{id_by, number_of, numbers_of, words_of}
use Rattle.cfdp_plans.specs.Names.{name_in, path_spelled}
use Rattle.cfdp_receiver.specs.declared.mib.Mib.{Mib}
use Rattle.cfdp_run.specs.Settings.{key_of, with_value}
use Rattle.cfdp_run.specs.Words.{is_of_head, word_of}
use Rattle.cfdp_run.specs.declared.settings.Key.{Key}
use Rattle.cfdp_run.specs.declared.words.FirstWord.{FirstWord}
use Rattle.cfdp_run.specs.declared.words.FirstWord.TheVariants as word
use Rattle.cfdp_run.specs.declared.wrong.Wrong.{Wrong}
use Rattle.cfdp_run.specs.declared.wrong.Wrong.TheVariants as wrong
use Rattle.cfdp_run.specs.declared.run_commands.HeadProgress.{HeadProgress}
use Rattle.cfdp_run.specs.declared.run_commands.HeadProgress.TheVariants as progress
use Rattle.cfdp_run.specs.declared.run_commands.RunCommand.{RunCommand}
use Rattle.cfdp_run.specs.declared.run_commands.RunCommand.TheVariants as command
use Rattle.cfdp_run.specs.declared.run_commands.FileContent.{FileContent as ContentValue}
use Rattle.cfdp_run.specs.declared.run_commands.FileContent.TheVariants as content
use Rattle.cfdp_run.specs.declared.run_commands.CommandFault.{CommandFault}
use Rattle.cfdp_run.specs.declared.run_commands.CommandFault.TheVariants as fault

-- nothing, octets, or those of the file with a name
pub data PutContent : Type 0 where
  Nothing : PutContent
  Octets : (octets : List ℕ) → PutContent
  File : (name : List ℕ) → PutContent

pub data LineMeaning : Type 0 where
  Settings : Mib → LineMeaning
  Configure : Config → LineMeaning
  Protect : Path → LineMeaning
  PutDirectory : Path → LineMeaning
  PutFile : Path → PutContent → LineMeaning
  Receive : (now : ℕ) → (octets : List ℕ) → LineMeaning
  Cancel : (now : ℕ) → TransactionId → LineMeaning
  Pass : (now : ℕ) → LineMeaning
  SetClock : (now : ℕ) → LineMeaning
  Get : Path → LineMeaning
  Gaps : TransactionId → LineMeaning
  Phase : TransactionId → LineMeaning
  ListAll : LineMeaning
  Expect : (line : List ℕ) → LineMeaning
  End : LineMeaning

abbrev pub content_of : ContentValue → PutContent
content_of content.None = Nothing
content_of (content.Octets octets) = Octets octets.items
content_of (content.File name) = File name.now

abbrev pub command_meaning : RunCommand → LineMeaning
command_meaning (command.Settings mib) = Settings mib
command_meaning (command.Configure config) = Configure config
command_meaning (command.Protect path) = Protect path
command_meaning (command.PutDirectory path) = PutDirectory path
command_meaning (command.PutFile path content) = PutFile path (content_of content)
command_meaning (command.Receive now octets) = Receive now octets.items
command_meaning (command.Cancel now id) = Cancel now id
command_meaning (command.Pass now) = Pass now
command_meaning (command.SetClock now) = SetClock now
command_meaning (command.Get path) = Get path
command_meaning (command.Gaps id) = Gaps id
command_meaning (command.Phase id) = Phase id
command_meaning command.List = ListAll
command_meaning (command.Expect line) = Expect line.items
command_meaning command.End = End

abbrev pub saying : {A B : Type 0} → (A → B) → Result A Wrong → Result B Wrong
saying say what = what >>= λ x. Ok (say x)

-- ---- `mib`: one or more settings

abbrev pub is_equals : ℕ → Bool
is_equals octet = octet == 61

abbrev pub valued : Mib → Key → List ℕ → Result Mib Wrong
valued mib key value = ok_or (with_value mib key value) (wrong.OutOfRange key)

abbrev pub keyed : Mib → Option Key → List ℕ → Result Mib Wrong
keyed mib key value = ok_or key wrong.UnknownKey >>= λ known. valued mib known value

-- the key is before the first `=`, and a word without one names no key
abbrev pub setting_at : Mib → List ℕ → Option ℕ → Result Mib Wrong
setting_at mib text (Some end) = keyed mib (key_of (take end text)) (drop (end + 1) text)
setting_at mib text None = Err wrong.UnknownKey

abbrev pub setting : Mib → List ℕ → Result Mib Wrong
setting mib text = setting_at mib text (position is_equals text)

abbrev pub settings : Mib → List (List ℕ) → Result Mib Wrong
settings mib [] = Ok mib
settings mib (text ∷ texts) = setting mib text >>= λ next. settings next texts

abbrev pub settings_in : Mib → List (List ℕ) → Result Mib Wrong
settings_in mib [] = Err (wrong.Expected word.Mib)
settings_in mib (text ∷ texts) = settings mib (text ∷ texts)

-- ---- `config`: five numbers

abbrev pub config_ranged : Option ConfigFault → Config → Result Config Wrong
config_ranged None config = Ok config
config_ranged (Some fault) config = Err wrong.ConfigRange

abbrev pub config_of : (entity blocks cap checks journal : ℕ) → Result Config Wrong
config_of entity blocks cap checks journal =
    config_ranged (config_fault blocks cap checks journal)
    (record { entity = entity; blocks = blocks; cap = cap; checks = checks; journal = journal; prefixes = [] })

abbrev pub is_fresh : HeadProgress → Bool
is_fresh progress.Fresh = true
is_fresh progress.Begun = false
is_fresh progress.Playing = false

abbrev pub config_in : HeadProgress → Option (List ℕ) → Result Config Wrong
config_in how_far (Some (entity ∷ blocks ∷ cap ∷ checks ∷ journal ∷ [])) =
    if is_fresh how_far then config_of entity blocks cap checks journal else Err wrong.ConfigTooLate
config_in how_far numbers = Err (wrong.Expected word.Config)

-- ---- a path, a transaction, hexadecimal

abbrev pub path_or_wrong : Option Path → Result Path Wrong
path_or_wrong path = ok_or path wrong.NoPath

abbrev pub only_path : FirstWord → List (List ℕ) → Result Path Wrong
only_path word (text ∷ []) = path_or_wrong (path_spelled text)
only_path word texts = Err (wrong.Expected word)

abbrev pub only_name : FirstWord → List (List ℕ) → Result TransactionId Wrong
only_name word texts = ok_or (id_by (numbers_of texts)) (wrong.Expected word)

abbrev pub at_least_one : List ℕ → Option (List ℕ)
at_least_one [] = None
at_least_one (octet ∷ octets) = Some (octet ∷ octets)

abbrev pub octets_spelled : List (List ℕ) → Option (List ℕ)
octets_spelled texts = option_and_then at_least_one (octets_of_words texts)

-- ---- `put`: a path, which with a `/` at its end is that of a directory; and what the file holds

-- without the `/` at the end, if there is one
abbrev pub before_slash : List ℕ → Option (List ℕ)
before_slash octets =
    if is_slash (slice_index octets (length octets - 1)) then Some (take (length octets - 1) octets) else None

abbrev pub directory_or_file : List ℕ → Option (List ℕ) → Result LineMeaning Wrong
directory_or_file octets (Some front) = saying PutDirectory (path_or_wrong (path_of front))
directory_or_file octets None = saying (λ path. PutFile path Nothing) (path_or_wrong (path_of octets))

abbrev pub put_alone : Option (List ℕ) → Result LineMeaning Wrong
put_alone name = ok_or name wrong.NoPath >>= λ octets. directory_or_file octets (before_slash octets)

abbrev pub only_file : List ℕ → List (List ℕ) → Option PutContent
only_file name [] = Some (File name)
only_file name (text ∷ texts) = None

abbrev pub hexadecimal_in : List (List ℕ) → Option PutContent
hexadecimal_in texts = option_map Octets (octets_spelled texts)

-- `@` with the name of a file, and nothing else; or hexadecimal
abbrev pub content_in : List (List ℕ) → Option PutContent
content_in [] = None
content_in ([] ∷ texts) = hexadecimal_in ([] ∷ texts)
content_in ((octet ∷ name) ∷ texts) = if octet == 64 then only_file name texts
    else hexadecimal_in ((octet ∷ name) ∷ texts)

abbrev pub put_with : List ℕ → Option PutContent → Result LineMeaning Wrong
put_with text content =
    ok_or content (wrong.Expected word.Put) >>= λ holds. saying (λ path. PutFile path holds)
    (path_or_wrong (path_spelled text))

abbrev pub put_in : List (List ℕ) → Result LineMeaning Wrong
put_in [] = Err (wrong.Expected word.Put)
put_in (text ∷ []) = put_alone (name_in text)
put_in (text ∷ next ∷ texts) = put_with text (content_in (next ∷ texts))

abbrev pub says_alone : FirstWord → LineMeaning → List (List ℕ) → Result LineMeaning Wrong
says_alone word what [] = Ok what
says_alone word what (text ∷ texts) = Err (wrong.Expected word)

-- ---- `at`: a time, and an input

abbrev pub input_in : ℕ → List (List ℕ) → Result LineMeaning Wrong
input_in now [] = Ok (Pass now)
input_in now (text ∷ texts) =
    if bytes_eq text (codes "pdu") then saying (λ octets. Receive now octets)
    (ok_or (octets_spelled texts) (wrong.Expected word.At))
    else if bytes_eq text (codes "cancel") then saying (λ id. Cancel now id) (only_name word.At texts)
    else if bytes_eq text (codes "clock") then says_alone word.At (SetClock now) texts
    else Err (wrong.Expected word.At)

abbrev pub at_in : List (List ℕ) → Result LineMeaning Wrong
at_in [] = Err (wrong.Expected word.At)
at_in (text ∷ texts) = ok_or (number_of text) (wrong.Expected word.At) >>= λ now. input_in now texts

-- ---- the others

-- the texts with one space between them
abbrev pub line_in : List (List ℕ) → Result (List ℕ) Wrong
line_in [] = Err (wrong.Expected word.Expect)
line_in (text ∷ texts) = Ok (join_with_byte 32 (text ∷ texts))

-- ---- lines

abbrev pub says : Mib → HeadProgress → FirstWord → List (List ℕ) → Result LineMeaning Wrong
says mib how_far word.Mib texts = saying Settings (settings_in mib texts)
says mib how_far word.Config texts = saying Configure (config_in how_far (numbers_of texts))
says mib how_far word.Protect texts = saying Protect (only_path word.Protect texts)
says mib how_far word.Put texts = put_in texts
says mib how_far word.At texts = at_in texts
says mib how_far word.Get texts = saying Get (only_path word.Get texts)
says mib how_far word.Gaps texts = saying Gaps (only_name word.Gaps texts)
says mib how_far word.Phase texts = saying Phase (only_name word.Phase texts)
says mib how_far word.List texts = says_alone word.List ListAll texts
says mib how_far word.Expect texts = saying Expect (line_in texts)
says mib how_far word.End texts = says_alone word.End End texts

abbrev pub is_playing : HeadProgress → Bool
is_playing progress.Fresh = false
is_playing progress.Begun = false
is_playing progress.Playing = true

abbrev pub in_time : Mib → HeadProgress → FirstWord → List (List ℕ) → Result LineMeaning Wrong
in_time mib how_far word texts = if is_of_head word && is_playing how_far then Err (wrong.TooLate word)
    else says mib how_far word texts

abbrev pub begun_by : Mib → HeadProgress → Option FirstWord → List (List ℕ) → Result LineMeaning Wrong
begun_by mib how_far word texts = ok_or word wrong.UnknownWord >>= λ known. in_time mib how_far known texts

abbrev pub texts_say : Mib → HeadProgress → List (List ℕ) → Result (Option LineMeaning) Wrong
texts_say mib how_far [] = Ok None
texts_say mib how_far (text ∷ texts) = saying Some (begun_by mib how_far (word_of text) texts)

abbrev pub meaning_in : Mib → HeadProgress → List ℕ → Result (Option LineMeaning) Wrong
meaning_in mib how_far line =
    if is_overlong line then Err wrong.TooLong
    else if is_comment line then Ok None
    else texts_say mib how_far (words_of line)

-- ---- what the program answers

-- what is wrong, if it is that, has a property
abbrev pub IfWrong : {T : Type 0} → Result T CommandFault → (Wrong → Type 0) → Type 0
IfWrong (Err (fault.Wrong wrong)) P = P wrong
IfWrong (Err fault.Memory) P = ⊤
IfWrong (Ok what) P = ⊤

-- where it is out of memory, this holds
abbrev pub OnMemory : {T : Type 0} → Result T CommandFault → Type 0 → Type 0
OnMemory (Err fault.Memory) P = P
OnMemory (Err (fault.Wrong wrong)) P = ⊤
OnMemory (Ok what) P = ⊤

-- with a path, octets or a line in it
abbrev pub takes_memory : LineMeaning → Bool
takes_memory (Protect path) = true
takes_memory (PutDirectory path) = true
takes_memory (PutFile path content) = true
takes_memory (Receive now octets) = true
takes_memory (Get path) = true
takes_memory (Expect line) = true
takes_memory others = false

-- for what is said, or for a path that is none
abbrev pub asks_by : {A : Type 0} → (A → Bool) → Result A Wrong → Bool
asks_by asks (Ok what) = asks what
asks_by asks (Err wrong.NoPath) = true
asks_by asks (Err others) = false

abbrev pub asks_memory : Result (Option LineMeaning) Wrong → Bool
asks_memory what = asks_by (λ found. option_map_or takes_memory found false) what
