-- What the calls from C say of the filestore.
--   node_fields node          a directory or a file as a struct;  looked F p: what is at a path
--   LooksUp path handle old new answer    it is reported; or the octets spell no path, or nothing is there
--   Copies at octets out written count    a file's octets from an offset on, as many as there are and as fit
--   CopiesFile, ReadsFile     these are copied where the path is a file's
use Rattle.std.specs.Prelude.{◌≡◌, ℕ, List, length, Option, Some, None}
use Rattle.std.specs.Option.{option_map}
use Rattle.cfdp_paths.specs.Paths.{Path}
use Rattle.cfdp_actions.specs.Filestore.{Filestore, Node, Directory, File, node_at}
use Rattle.cfdp_checksum.specs.Checksum.{checksum}
use Rattle.cfdp_tree.specs.Found.{fitting, with_octets}
use Rattle.cfdp_transactions.specs.World.{World}
use Rattle.cfdp_c.specs.Answers.{answer_code}
use Rattle.cfdp_c.specs.Creation.{path_in_fields}
use Rattle.cfdp_c.specs.Numbers.{entry_file, entry_directory}
use Rattle.cfdp_c.specs.Reads.{FoundOrNothing}
use Rattle.cfdp_c.specs.declared.answer.CallAnswer.TheVariants.{Done, NoEngine, Nothing, BadPath}
use Rattle.cfdp_c.specs.declared.fields.EntryFields.{EntryFields}
use Rattle.cfdp_c.specs.declared.fields.PathFields.{PathFields}

abbrev pub node_fields : Node → EntryFields
node_fields Directory = record { kind = entry_directory; checksum = 0; size = 0 }
node_fields (File octets) = record { kind = entry_file; checksum = checksum octets; size = length octets }

abbrev pub looked : Filestore → Path → Option EntryFields
looked F p = option_map node_fields (node_at F p)

abbrev pub Looks : Option Path → World → EntryFields → EntryFields → ℕ → Type 0
Looks None W old new answer = (new ≡ old) × (answer ≡ answer_code BadPath)
Looks (Some path) W old new answer = FoundOrNothing (looked W.filestore path) old new answer

abbrev pub LooksUp : PathFields → Option World → EntryFields → EntryFields → ℕ → Type 0
LooksUp path None old new answer = (new ≡ old) × (answer ≡ answer_code NoEngine)
LooksUp path (Some W) old new answer = Looks (path_in_fields path) W old new answer

abbrev pub Copies : ℕ → List ℕ → List ℕ → List ℕ → ℕ → Type 0
Copies at octets out written count = (count ≡ fitting octets at out) × (written ≡ with_octets octets at out)

abbrev pub CopiesFile : Option Node → ℕ → List ℕ → List ℕ → ℕ → ℕ → ℕ → Type 0
CopiesFile (Some (File octets)) at out written before count answer = Copies at octets out written count
    × (answer ≡ answer_code Done)
CopiesFile there at out written before count answer = (written ≡ out) × (count ≡ before) ×
    (answer ≡ answer_code Nothing)

abbrev pub CopiesPath : Option Path → World → ℕ → List ℕ → List ℕ → ℕ → ℕ → ℕ → Type 0
CopiesPath None W at out written before count answer = (written ≡ out) × (count ≡ before) ×
    (answer ≡ answer_code BadPath)
CopiesPath (Some path) W at out written before count answer =
    CopiesFile (node_at W.filestore path) at out written before count answer

abbrev pub ReadsFile : PathFields → Option World → ℕ → List ℕ → List ℕ → ℕ → ℕ → ℕ → Type 0
ReadsFile path None at out written before count answer = (written ≡ out) × (count ≡ before)
    × (answer ≡ answer_code NoEngine)
ReadsFile path (Some W) at out written before count answer =
    CopiesPath (path_in_fields path) W at out written before count answer
