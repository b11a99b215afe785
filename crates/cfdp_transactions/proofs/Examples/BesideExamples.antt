-- Worked examples for the laws beside the headline: where something is after a step, what is refused for the sake of
-- the paths, and whether the file is installed.
use Rattle.std.proofs.Common.{◌≡◌, ℕ, List, [], ◌∷◌, map, refl}
use Rattle.std.specs.Prelude.{Bool, true, false, pos, Some, None, codes, slice_set}
use Rattle.std.specs.FinMap as finite
use Rattle.cfdp_status.specs.declared.action.Action.TheVariants as action
use Rattle.cfdp_status.specs.declared.status.Status.TheVariants.{Successful, NotAllowed}
use Rattle.cfdp_paths.specs.Paths.{Path, is_path}
use Rattle.cfdp_actions.specs.Filestore.{Node, Directory, File, empty_filestore, blocks_of, blocks}
use Rattle.cfdp_actions.specs.Actions.{Item, Install, Perform, CreateFile, RenameFile, Answer, row, free_row, table, create, rename, install}
use Rattle.cfdp_checksum.specs.Checksum.{weighed_from}
use Rattle.cfdp_leases.specs.Items.{step_bound}
use Rattle.cfdp_states.specs.Alone.{statuses, steps, peak}
use Rattle.cfdp_verifier.specs.declared.refusal.Place.TheVariants as places
use Rattle.cfdp_verifier.specs.declared.refusal.Refusal.TheVariants.{BadPath}
use Rattle.cfdp_transactions.specs.Entry.{Phase, Executing, Done, Refused, Entry, has_file}
use Rattle.cfdp_transactions.specs.Events.{Step, Take, Reply}
use Rattle.cfdp_transactions.specs.Outcome.{file_status_of}
use Rattle.cfdp_transactions.specs.World.{World, start}
use Rattle.cfdp_transactions.specs.Admission.{refused_entry}
use Rattle.cfdp_transactions.specs.Next.{next, replies}
use Rattle.cfdp_transactions.specs.Beside.{says_installed, installs}
use Rattle.cfdp_transactions.proofs.Examples.Computing.{Listed, look_ups}
use Rattle.cfdp_transactions.proofs.Examples.ExampleWords.{config, header, id, asks, list, file_to, metadata, piece, eof, world, fresh, executing, outcome}

-- keys -----------------------------------------------------------------------------------

-- what is after one item, and whether it is at a path
abbrev keys_after : Listed → Item → List (Path × Bool)
keys_after es item = map (λ (e : Path × Node). (e.0, is_path e.0)) (finite.entries
    (next (world config es (executing (fresh 12 (list []) (item ∷ []) 9 99) ∷ [])) (Step (id 12))).0.filestore.nodes)

created : keys_after [] (Perform (CreateFile (codes "a" ∷ []))) ≡ (codes "a" ∷ [], true) ∷ []
unfolding row free_row table create blocks blocks_of
created = simp look_ups

-- a directory with a file in it moves
moved : keys_after ((codes "d" ∷ [], Directory) ∷ (codes "d" ∷ codes "x" ∷ [], File []) ∷ []) (Perform (RenameFile (codes "d" ∷ []) (codes "e" ∷ []))) ≡
    (codes "e" ∷ [], true) ∷ (codes "e" ∷ codes "x" ∷ [], true) ∷ []
unfolding row free_row table rename blocks blocks_of
moved = simp look_ups

-- to seven names it may move, and what is in it then is at eight; to eight names it may not
abbrev seven : Path
seven = codes "a" ∷ codes "b" ∷ codes "c" ∷ codes "d" ∷ codes "e" ∷ codes "f" ∷ codes "g" ∷ []

abbrev eight : Path
eight = codes "a" ∷ codes "b" ∷ codes "c" ∷ codes "d" ∷ codes "e" ∷ codes "f" ∷ codes "g" ∷ codes "h" ∷ []

abbrev renamed_to : Path → Answer
renamed_to q = (rename (codes "z" ∷ []) q (Some Directory) None true false ((codes "z" ∷ [], Directory) ∷ (codes "z" ∷ codes "x" ∷ [], File []) ∷ [])).answer

deep_enough : renamed_to seven ≡ Answer.Performed (Successful action.RenameFile)
unfolding rename
deep_enough = refl

too_deep : renamed_to eight ≡ Answer.Performed (NotAllowed action.RenameFile)
unfolding rename
too_deep = refl

-- a name that is no path: the list is refused
dots : replies (start config) (metadata 5 (list (asks action.CreateDirectory (codes "d") ∷ asks action.CreateFile (codes "d/..") ∷ [])) ∷ [])
    ≡ Reply.Refused (BadPath (places.Request 1)) ∷ []
dots = refl

no_path : is_path (codes "d" ∷ codes ".." ∷ []) ≡ false
no_path = refl

-- the file -------------------------------------------------------------------------------

-- of each transaction: its phase, whether its file is installed, whether it has one, and the file status
abbrev files : List Entry → List (Phase × Bool × Bool × ℕ)
files table = map (λ (e : Entry). (e.phase, e.installed, has_file e.metadata, file_status_of e)) table

-- whether 'installed' is replied, and these
abbrev shown : World × Reply → Bool × List (Phase × Bool × Bool × ℕ)
shown a = (says_installed a.1, files a.0.table)

-- four octets for f are there, and after the install comes a request
abbrev delivered : Entry
delivered = record (executing (fresh 6 (file_to (codes "f") 4 (asks action.CreateFile (codes "a") ∷ []))
    (Install (codes "f" ∷ []) ∷ Perform (CreateFile (codes "a" ∷ [])) ∷ []) 3 9)) {
      received = Some 1 ∷ Some 2 ∷ Some 3 ∷ Some 4 ∷ [];
      blocks_spent = pos 1;
    }

abbrev before_install : World
before_install = record {
  config = config;
  filestore = record { nodes = finite.from_sorted []; staged = slice_set empty_filestore.staged 0 (1 ∷ 2 ∷ 3 ∷ 4 ∷ []) };
  table = delivered ∷ [];
}

abbrev after_install : World
after_install = world config ((codes "f" ∷ [], File (1 ∷ 2 ∷ 3 ∷ 4 ∷ [])) ∷ []) (record delivered { phase = Executing 1; installed = true; received = [] } ∷ [])

not_yet : files before_install.table ≡ (Executing 0, false, true, 0) ∷ []
not_yet = refl

first_installs : installs before_install (Step (id 6)) ≡ true
first_installs = refl

first : shown (next before_install (Step (id 6))) ≡ (true, (Executing 1, true, true, 2) ∷ [])
unfolding row free_row install blocks blocks_of
first = simp look_ups

second_installs_none : installs after_install (Step (id 6)) ≡ false
second_installs_none = refl

second : shown (next after_install (Step (id 6))) ≡ (false, (Done, true, true, 2) ∷ [])
unfolding row free_row table create blocks blocks_of
second = simp look_ups

-- without a file the first item is a request
abbrev without_file : World
without_file = world config [] (executing (fresh 5 (list (asks action.CreateFile (codes "a") ∷ [])) (Perform (CreateFile (codes "a" ∷ [])) ∷ []) 1 2) ∷ [])

first_installs_none : installs without_file (Step (id 5)) ≡ false
first_installs_none = refl

only : shown (next without_file (Step (id 5))) ≡ (false, (Done, false, false, 3) ∷ [])
unfolding row free_row table create blocks blocks_of
only = simp look_ups

-- neither a file nor a request: done at its EOF
no_items : shown (next (world config [] (fresh 7 (list []) [] 0 0 ∷ [])) (eof 7 0 0)) ≡ (false, (Done, false, false, 3) ∷ [])
no_items = refl

-- refused, so that its file is not installed: only what is done has it
refused : files (refused_entry (header 8) (file_to (codes "f") 4 []) Refused ∷ []) ≡ (Refused, false, true, 1) ∷ []
refused = refl

-- a whole run, with the Finished PDU at its end
delivers : replies (start config) (metadata 6 (file_to (codes "f") 4 []) ∷ piece 6 0 (1 ∷ 2 ∷ 3 ∷ 4 ∷ []) ∷ eof 6 0x01020304 4 ∷ Step (id 6) ∷ Take (id 6) ∷ [])
    ≡
    Reply.Admitted 2 2 ∷ Reply.Stored ∷ Reply.Complete ∷ Reply.Installed ∷ Reply.Taken
    (outcome 6 (record { condition = 0; incomplete = false; file_status = 2; responses = []; fault = None })) ∷ []
unfolding statuses steps peak row free_row install step_bound blocks blocks_of weighed_from
delivers = simp look_ups
