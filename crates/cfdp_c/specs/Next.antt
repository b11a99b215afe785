-- What is next in the filestore after a path, as C gets it.
--   spelled_fields octets     octets that spell a path as a struct: zeros are after them;  path_fields: of a path
--   cursor_in fields          the path that a struct spells, and the root where it has no octets
--   IsNextAfter F p path entry the path that is next, and what is there, are reported
--   NextOrNone F p old new answer likewise;  or nothing comes next, and both structs are as before
--   GoesOnFrom cursor         likewise of the path that is spelled;  or none is
--   TellsNext handle          likewise of an engine's filestore;  or there is no engine
use Rattle.std.specs.Prelude.{◌≡◌, ◌⊎◌, ◌==◌, ℕ, List, [], ◌++◌, drop, length, replicate, if◌then◌else◌, Option, Some, None}
use Rattle.cfdp_paths.specs.Paths.{Path, joined}
use Rattle.cfdp_actions.specs.Filestore.{Filestore, Node, node_at}
use Rattle.cfdp_tree.specs.Next.{IsNext, IsLast}
use Rattle.cfdp_transactions.specs.World.{World}
use Rattle.cfdp_c.specs.Answers.{answer_code}
use Rattle.cfdp_c.specs.Creation.{path_in_fields}
use Rattle.cfdp_c.specs.Stored.{node_fields}
use Rattle.cfdp_c.specs.declared.answer.CallAnswer.TheVariants.{Done, NoEngine, Nothing, BadPath}
use Rattle.cfdp_c.specs.declared.fields.EntryFields.{EntryFields}
use Rattle.cfdp_c.specs.declared.fields.PathFields.{PathFields}

abbrev pub spelled_fields : List ℕ → PathFields
spelled_fields octets = record { length = length octets; octets = octets ++ drop (length octets) (replicate 776 0) }

abbrev pub path_fields : Path → PathFields
path_fields path = spelled_fields (joined path)

abbrev pub cursor_in : PathFields → Option Path
cursor_in fields = if fields.length == 0 then Some [] else path_in_fields fields

pub record IsNextAfter (F : Filestore) (p : Path) (path : PathFields) (entry : EntryFields) : Type 0 where
  pub next : Path
  pub node : Node
  pub there : node_at F next ≡ Some node
  pub is_next : IsNext F p next
  pub path_is : path ≡ path_fields next
  pub entry_is : entry ≡ node_fields node

abbrev pub NextOrNone : Filestore → Path → PathFields → PathFields → EntryFields → EntryFields → ℕ → Type 0
NextOrNone F p before path old entry answer =
    (IsNextAfter F p path entry × (answer ≡ answer_code Done))
    ⊎ (IsLast F p × (path ≡ before) × (entry ≡ old) × (answer ≡ answer_code Nothing))

abbrev pub GoesOnFrom : Option Path → Filestore → PathFields → PathFields → EntryFields → EntryFields → ℕ → Type 0
GoesOnFrom None F before path old entry answer = (path ≡ before) × (entry ≡ old) × (answer ≡ answer_code BadPath)
GoesOnFrom (Some p) F before path old entry answer = NextOrNone F p before path old entry answer

abbrev pub TellsNext : PathFields → Option World → PathFields → EntryFields → EntryFields → ℕ → Type 0
TellsNext before None path old entry answer = (path ≡ before) × (entry ≡ old) × (answer ≡ answer_code NoEngine)
TellsNext before (Some W) path old entry answer = GoesOnFrom (cursor_in before) W.filestore before path old entry answer
