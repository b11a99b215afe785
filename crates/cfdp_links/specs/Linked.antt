-- What a run of `links` is.
--
--   IsFaultWhere     of a fault, by what it is: out of memory, a fact of the bad line that it names, or another fact
--   IsBadFile        why the files are not read: out of memory, or the first bad line of the first file that has one
--   IsHeard          what is said may be handed in: of what is no PDU, an event whose outcome can be written
--   HasReadable      the events that a seat handed in may come from PDUs that were read
--   AllNumbered      a fact of each of some things, by their numbers
--   IsWork           what a worker with this number leaves, if nothing stopped it: a seat of that number, which handed
--                    in just the events that the messages bring which it took, and how many of these were PDUs without
--                    an event
--   Handed           these events, and this many PDUs without one, are those of a file, by what its lines say: each
--                    line that is an event once, a run for some steps, 4,224 at most, and no others
--   AreHanded        each file's, by what is said of the seats with their numbers, and the PDUs without an event
--   events_by        of a journal, the events that the seat handed in, in order
--   Stops            why no text is made: out of memory, the first bad line, or a fault after the reading of all
--                    files
--   IsLinked         the text is that of a journal, which is a history under the files' configuration, of seats whose
--                    receipts are its entries, and in which each seat's events are those of its file's lines
--   IsLinkedBy       the same of some scripts, none of which has a bad line
--   IsLinkRun        such a text was written
--   IsLinkLost       a writer failed within such a text: a beginning of it was written, as far as the writer shows
use Rattle.std.specs.Prelude.{◌≡◌, ⊤, ℕ, ◌+◌, List, [], ◌∷◌, map, filter, ◌==◌, Option, None, Result, Ok, Err, IsOk}
use Rattle.std.specs.Io.KnownBytes.{Appends}
use Rattle.std.specs.List.{AllByRecursion}
use Rattle.cfdp_transactions.specs.declared.event.Event.{Event}
use Rattle.cfdp_transactions.specs.World.{World}
use Rattle.cfdp_transactions.specs.Writable.{IsReadable}
use Rattle.cfdp_engine.specs.declared.journal_entry.JournalEntry.{JournalEntry}
use Rattle.cfdp_engine.specs.Journal.{IsHistory, journal_events}
use Rattle.cfdp_engine.specs.Seats.{Seated, IsReconciled}
use Rattle.cfdp_engine.specs.Sharing.{receipt_events}
use Rattle.cfdp_engine.specs.declared.message.Message.{Message}
use Rattle.cfdp_engine.specs.Working.{BringAll, passed_over}
use Rattle.cfdp_engine.specs.declared.working.Worked.{Worked}
use Rattle.cfdp_links.specs.JournalTexts.{journal_text}
use Rattle.cfdp_links.specs.Links.{Said, Happened, said_of, Files, link_files}
use Rattle.cfdp_streams.specs.Streams.{LostWithin}
use Rattle.cfdp_lines.specs.declared.faults.LinkFault.{LinkFault}
use Rattle.cfdp_lines.specs.declared.faults.LinkFault.TheVariants.{Memory, BadLine}

abbrev pub IsFaultWhere : (bad : (file line : ℕ) → Type 0) → (other : Type 0) → LinkFault → Type 0
IsFaultWhere bad other Memory = ⊤
IsFaultWhere bad other (BadLine file line) = bad file line
IsFaultWhere bad other fault = other

abbrev pub IsBadFile : Result Files (ℕ × ℕ) → LinkFault → Type 0
IsBadFile read fault = IsFaultWhere (λ file line. read ≡ Err (file, line)) ⊥ fault

abbrev pub Stops : Result Files (ℕ × ℕ) → LinkFault → Type 0
Stops read fault = IsFaultWhere (λ file line. read ≡ Err (file, line)) (IsOk read) fault

abbrev pub IsHeard : Said → Type 0
IsHeard (Happened event) = IsReadable event
IsHeard said = ⊤

abbrev pub HasReadable : Seated → Type 0
HasReadable seat = AllByRecursion IsReadable (receipt_events seat.receipts)

abbrev pub AllNumbered : {X : Type 0} → (ℕ → X → Type 0) → ℕ → List X → Type 0
AllNumbered P number [] = ⊤
AllNumbered P number (x ∷ xs) = P number x × AllNumbered P (number + 1) xs

pub record IsDone (number : ℕ) (worked : Worked) : Type 0 where
  pub seat : worked.seat.number ≡ number
  pub brought : BringAll worked.taken.items (receipt_events worked.seat.receipts)
  pub dropped : worked.dropped ≡ passed_over worked.taken.items

pub record IsWork (number : ℕ) (worked : Worked) : Type 0 where
  pub done : worked.stopped ≡ None → IsDone number worked

pub record Handed (said : List Said) (events : List Event) (dropped : ℕ) : Type 0 where
  pub messages : List Message
  pub same : map said_of messages ≡ said
  pub brought : BringAll messages events
  pub without : dropped ≡ passed_over messages

abbrev pub AreHanded : (Seated → List Event) → ℕ → List (List Said) → List Seated → List ℕ → Type 0
AreHanded events number [] [] [] = ⊤
AreHanded events number (said ∷ files) (seat ∷ seats) (dropped ∷ others) =
    (seat.number ≡ number) × Handed said (events seat) dropped × AreHanded events (number + 1) files seats others
AreHanded events number files seats others = ⊥

abbrev pub events_by : List JournalEntry → Seated → List Event
events_by journal seat = journal_events (filter (λ e. e.seat == seat.number) journal)

pub record IsLinked (files : Files) (text : List ℕ) : Type 0 where
  pub journal : List JournalEntry
  pub seats : List Seated
  pub dropped : List ℕ
  pub world : World
  pub history : IsHistory journal world
  pub config : world.config ≡ files.config
  pub reconciled : IsReconciled journal seats
  pub handed : AreHanded (events_by journal) 0 files.said seats dropped
  pub writes : text ≡ journal_text journal seats dropped world

-- of some scripts: none has a bad line, and the text is one of what they say
pub record IsLinkedBy (scripts : List (List ℕ)) (text : List ℕ) : Type 0 where
  pub files : Files
  pub read : link_files scripts ≡ Ok files
  pub linked : IsLinked files text

pub record IsLinkRun (scripts : List (List ℕ)) (old new : Option (List ℕ)) : Type 0 where
  pub text : List ℕ
  pub linked : IsLinkedBy scripts text
  pub appended : Appends old new text

pub record IsLinkLost (scripts : List (List ℕ)) (old new : Option (List ℕ)) : Type 0 where
  pub text : List ℕ
  pub linked : IsLinkedBy scripts text
  pub lost : LostWithin text old new
