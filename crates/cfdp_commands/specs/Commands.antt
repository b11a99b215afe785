-- What a line of `replay` and of `links` says.
--
--   Command        what a line says: a configuration, a path that is protected, a PDU that came, an event of the
--                  entity's own, a run of steps, or a listing
--   command_of     the same of a value of the program
--   keyword_of     what the first word of a line says, if it says something
--   local_event    the event of a transaction
--   without_words  what a line says that has no other word than its first
--   command_by     what a line says, by its first word and the words after it; nothing where it is bad
--   command_in     what a line says, if it has a word; nothing where it is bad
--   IsPdu          it is a PDU that came;  SaysPdu: a line says so. Only the octets of a PDU take memory
use Rattle.std.specs.Prelude.{⊤, ℕ, if◌then◌else◌, List, [], ◌∷◌, Option, Some, None, option_map, option_and_then, codes, bytes_eq}
use Rattle.cfdp_status.specs.declared.transaction.TransactionId.{TransactionId}
use Rattle.cfdp_paths.specs.Paths.{path_of}
use Rattle.cfdp_transactions.specs.declared.event.Event.{Event}
use Rattle.cfdp_transactions.specs.declared.event.Event.TheVariants as events
use Rattle.cfdp_lines.specs.Hexadecimal.{octets_of_words}
use Rattle.cfdp_lines.specs.Words.{id_by, numbers_of, words_of}
use Rattle.cfdp_commands.specs.declared.commands.Command.{Command as CommandValue}
use Rattle.cfdp_commands.specs.declared.commands.Command.TheVariants as command
use Rattle.cfdp_commands.specs.declared.commands.Keyword.{Keyword}
use Rattle.cfdp_commands.specs.declared.commands.Keyword.TheVariants as keyword
use Rattle.cfdp_commands.specs.declared.commands.Local.{Local as LocalEvent}
use Rattle.cfdp_commands.specs.declared.commands.Local.TheVariants.{Step, Cancel, Check, Take}

pub data Command : Type 0 where
  Config : (entity blocks cap checks journal : ℕ) → Command
  Protect : (octets : List ℕ) → Command
  Pdu : (octets : List ℕ) → Command
  Local : LocalEvent → TransactionId → Command
  Run : Command
  ListAll : Command

abbrev pub local_event : LocalEvent → TransactionId → Event
local_event Step id = events.Step id
local_event Cancel id = events.Cancel id
local_event Check id = events.Check id
local_event Take id = events.Take id

abbrev pub command_of : CommandValue → Command
command_of (command.Config entity blocks cap checks journal) = Config entity blocks cap checks journal
command_of (command.Protect octets) = Protect octets.now
command_of (command.Pdu octets) = Pdu octets.now
command_of (command.Local which id) = Local which id
command_of command.Run = Run
command_of command.List = ListAll

abbrev pub keyword_of : List ℕ → Option Keyword
keyword_of word =
    if bytes_eq word (codes "pdu") then Some keyword.Pdu
    else if bytes_eq word (codes "step") then Some (keyword.Local Step)
    else if bytes_eq word (codes "run") then Some keyword.Run
    else if bytes_eq word (codes "check") then Some (keyword.Local Check)
    else if bytes_eq word (codes "take") then Some (keyword.Local Take)
    else if bytes_eq word (codes "cancel") then Some (keyword.Local Cancel)
    else if bytes_eq word (codes "list") then Some keyword.List
    else if bytes_eq word (codes "config") then Some keyword.Config
    else if bytes_eq word (codes "protect") then Some keyword.Protect
    else None

-- its five numbers
abbrev pub config_by : Option (List ℕ) → Option Command
config_by (Some (entity ∷ blocks ∷ cap ∷ checks ∷ journal ∷ [])) = Some (Config entity blocks cap checks journal)
config_by numbers = None

-- octets that spell a path
abbrev pub protect_by : Option (List ℕ) → Option Command
protect_by None = None
protect_by (Some octets) = option_map (λ path. Protect octets) (path_of octets)

-- the two numbers that name a transaction
abbrev pub local_by : LocalEvent → Option TransactionId → Option Command
local_by which id = option_map (Local which) id

-- a line without a pair of digits is bad
abbrev pub pdu_by : Option (List ℕ) → Option Command
pdu_by None = None
pdu_by (Some []) = None
pdu_by (Some (octet ∷ octets)) = Some (Pdu (octet ∷ octets))

abbrev pub without_words : Command → List (List ℕ) → Option Command
without_words what [] = Some what
without_words what (word ∷ words) = None

abbrev pub command_by : Keyword → List (List ℕ) → Option Command
command_by keyword.Config words = config_by (numbers_of words)
command_by keyword.Protect words = protect_by (octets_of_words words)
command_by keyword.Pdu words = pdu_by (octets_of_words words)
command_by (keyword.Local which) words = local_by which (id_by (numbers_of words))
command_by keyword.Run words = without_words Run words
command_by keyword.List words = without_words ListAll words

abbrev pub words_say : List (List ℕ) → Option (Option Command)
words_say [] = Some None
words_say (word ∷ words) = option_map Some (option_and_then (λ known. command_by known words) (keyword_of word))

abbrev pub command_in : List ℕ → Option (Option Command)
command_in line = words_say (words_of line)

abbrev pub IsPdu : Option Command → Type 0
IsPdu (Some (Pdu octets)) = ⊤
IsPdu others = ⊥

abbrev pub SaysPdu : Option (Option Command) → Type 0
SaysPdu (Some said) = IsPdu said
SaysPdu None = ⊥
