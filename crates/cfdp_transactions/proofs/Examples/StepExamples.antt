-- Worked examples of steps, one for each kind of item: the reply, what is after it, and the blocks and steps that
-- the transaction has spent then.
use Rattle.std.proofs.Common.{◌≡◌, ℕ, ℤ, List, [], ◌∷◌, map}
use Rattle.std.specs.Prelude.{pos, negsuc, Some, codes, replicate, slice_set}
use Rattle.std.specs.FinMap as finite
use Rattle.cfdp_status.specs.declared.action.Action.TheVariants as action
use Rattle.cfdp_status.specs.declared.status.Status.TheVariants.{Successful, DeleteAbsent}
use Rattle.cfdp_actions.specs.Filestore.{Directory, File, empty_filestore, blocks_of, blocks}
use Rattle.cfdp_actions.specs.Actions.{Item, Install, Perform, CreateFile, DeleteFile, RenameFile, AppendFile, ReplaceFile, CreateDirectory, RemoveDirectory, DenyFile, DenyDirectory, row, free_row, table, create, delete_file, rename, append, replace, remove_directory, deny_file, deny_directory, install}
use Rattle.cfdp_transactions.specs.Config.{Config}
use Rattle.cfdp_transactions.specs.Entry.{Executing, Entry}
use Rattle.cfdp_transactions.specs.Events.{Step, Reply}
use Rattle.cfdp_transactions.specs.World.{World, free, spare_blocks}
use Rattle.cfdp_transactions.specs.Next.{next}
use Rattle.cfdp_transactions.proofs.Examples.Computing.{Listed, nodes_of, look_ups}
use Rattle.cfdp_transactions.proofs.Examples.ExampleWords.{config, id, list, file_to, world, fresh, executing}

abbrev shown : World × Reply → Reply × Listed × List (ℤ × ℕ)
shown a = (a.1, finite.entries a.0.filestore.nodes, map (λ (e : Entry). (e.blocks_spent, e.steps_spent)) a.0.table)

abbrev stepped : Listed → Item → Reply × Listed × List (ℤ × ℕ)
stepped es item = shown (next (world config es (executing (fresh 12 (list []) (item ∷ []) 9 99) ∷ [])) (Step (id 12)))

-- one block for the node
creates_file : stepped [] (Perform (CreateFile (codes "a" ∷ []))) ≡ (
  Reply.Performed (Successful action.CreateFile),
  (codes "a" ∷ [], File []) ∷ [],
  (pos 1, 2) ∷ [],
)
unfolding row free_row table create blocks blocks_of
creates_file = simp look_ups

-- 600 octets and the node: six blocks given back
deletes_file : stepped ((codes "old" ∷ [], File (replicate 600 6)) ∷ []) (Perform (DeleteFile (codes "old" ∷ [])))
    ≡ (Reply.Performed (Successful action.DeleteFile), [], (negsuc 5, 7) ∷ [])
unfolding row free_row table delete_file blocks blocks_of
deletes_file = simp look_ups

renames_file : stepped ((codes "a" ∷ [], File (5 ∷ [])) ∷ []) (Perform (RenameFile (codes "a" ∷ []) (codes "b" ∷ []))) ≡
    (Reply.Performed (Successful action.RenameFile), (codes "b" ∷ [], File (5 ∷ [])) ∷ [], (pos 0, 1) ∷ [])
unfolding row free_row table rename blocks blocks_of
renames_file = simp look_ups

-- with all that is below it
renames_directory : stepped ((codes "d" ∷ [], Directory) ∷ (codes "d" ∷ codes "x" ∷ [], File (5 ∷ [])) ∷ [])
    (Perform (RenameFile (codes "d" ∷ []) (codes "e" ∷ []))) ≡
    (Reply.Performed (Successful action.RenameFile), (codes "e" ∷ [], Directory) ∷ (codes "e" ∷ codes "x" ∷ [], File (5 ∷ [])) ∷ [], (pos 0, 1) ∷ [])
unfolding row free_row table rename blocks blocks_of
renames_directory = simp look_ups

-- to itself: one block read, and one taken
appends : stepped ((codes "a" ∷ [], File (replicate 120 1)) ∷ []) (Perform (AppendFile (codes "a" ∷ []) (codes "a" ∷ []))) ≡
    (Reply.Performed (Successful action.AppendFile), (codes "a" ∷ [], File (replicate 240 1)) ∷ [], (pos 1, 3) ∷ [])
unfolding row free_row table append blocks blocks_of
appends = simp look_ups

replaces : stepped ((codes "a" ∷ [], File (replicate 120 1)) ∷ (codes "b" ∷ [], File []) ∷ []) (Perform (ReplaceFile (codes "b" ∷ []) (codes "a" ∷ []))) ≡
    (Reply.Performed (Successful action.ReplaceFile), (codes "a" ∷ [], File (replicate 120 1)) ∷ (codes "b" ∷ [], File (replicate 120 1)) ∷ [], (pos 1, 3) ∷ [])
unfolding row free_row table replace blocks blocks_of
replaces = simp look_ups

-- by itself: nothing to do
replaces_itself : stepped ((codes "a" ∷ [], File (replicate 120 1)) ∷ []) (Perform (ReplaceFile (codes "a" ∷ []) (codes "a" ∷ []))) ≡
    (Reply.Performed (Successful action.ReplaceFile), (codes "a" ∷ [], File (replicate 120 1)) ∷ [], (pos 0, 1) ∷ [])
unfolding row free_row table replace blocks blocks_of
replaces_itself = simp look_ups

creates_directory : stepped [] (Perform (CreateDirectory (codes "d" ∷ [])))
    ≡ (Reply.Performed (Successful action.CreateDirectory), (codes "d" ∷ [], Directory) ∷ [], (pos 1, 2) ∷ [])
unfolding row free_row table create blocks blocks_of
creates_directory = simp look_ups

removes_directory : stepped ((codes "d" ∷ [], Directory) ∷ []) (Perform (RemoveDirectory (codes "d" ∷ [])))
    ≡ (Reply.Performed (Successful action.RemoveDirectory), [], (negsuc 0, 2) ∷ [])
unfolding row free_row table remove_directory blocks blocks_of
removes_directory = simp look_ups

denies_file : stepped ((codes "z" ∷ [], File (replicate 120 1)) ∷ []) (Perform (DenyFile (codes "z" ∷ [])))
    ≡ (Reply.Performed (Successful action.DenyFile), [], (negsuc 1, 3) ∷ [])
unfolding row free_row table deny_file blocks blocks_of
denies_file = simp look_ups

-- what is absent is denied already
denies_absent_file : stepped [] (Perform (DenyFile (codes "z" ∷ []))) ≡ (Reply.Performed (Successful action.DenyFile), [], (pos 0, 1) ∷ [])
unfolding row free_row table deny_file blocks blocks_of
denies_absent_file = simp look_ups

denies_directory : stepped ((codes "d" ∷ [], Directory) ∷ []) (Perform (DenyDirectory (codes "d" ∷ [])))
    ≡ (Reply.Performed (Successful action.DenyDirectory), [], (negsuc 0, 2) ∷ [])
unfolding row free_row table deny_directory blocks blocks_of
denies_directory = simp look_ups

denies_absent_directory : stepped [] (Perform (DenyDirectory (codes "y" ∷ codes "z" ∷ [])))
    ≡ (Reply.Performed (Successful action.DenyDirectory), [], (pos 0, 1) ∷ [])
unfolding row free_row table deny_directory blocks blocks_of
denies_absent_directory = simp look_ups

-- octets beyond a block are moved too: 119 of them, to themselves
appends_less : stepped ((codes "a" ∷ [], File (replicate 119 1)) ∷ []) (Perform (AppendFile (codes "a" ∷ []) (codes "a" ∷ []))) ≡
    (Reply.Performed (Successful action.AppendFile), (codes "a" ∷ [], File (replicate 238 1)) ∷ [], (pos 1, 3) ∷ [])
unfolding row free_row table append blocks blocks_of
appends_less = simp look_ups

-- the install ------------------------------------------------------------------------

-- these entries exist, 15 octets are staged and were received, and the install is next
abbrev delivered : Config → Listed → World
delivered c es = record {
  config = c;
  filestore = record { nodes = nodes_of es; staged = slice_set empty_filestore.staged 0 (replicate 15 7) };
  table = record (executing (fresh 10 (file_to (codes "f") 15 []) (Install (codes "f" ∷ []) ∷ []) 2 9)) {
    received = replicate 15 (Some 7);
    blocks_spent = pos 1;
  } ∷ [];
}

installs : shown (next (delivered config []) (Step (id 10))) ≡ (Reply.Installed, (codes "f" ∷ [], File (replicate 15 7)) ∷ [], (pos 2, 2) ∷ [])
unfolding row free_row install blocks blocks_of
installs = simp look_ups

-- over a file of two blocks
installs_over : shown (next (delivered config ((codes "f" ∷ [], File (replicate 121 5)) ∷ [])) (Step (id 10)))
    ≡ (Reply.Installed, (codes "f" ∷ [], File (replicate 15 7)) ∷ [], (negsuc 0, 3) ∷ [])
unfolding row free_row install blocks blocks_of
installs_over = simp look_ups

-- steps that fail ----------------------------------------------------------------------

-- such a step would end the transaction, with condition 4, and give back what is staged; sound worlds have none
fails : stepped [] (Perform (DeleteFile (codes "a" ∷ []))) ≡ (Reply.Performed DeleteAbsent, [], (pos 0, 1) ∷ [])
unfolding row free_row table delete_file blocks blocks_of
fails = simp look_ups

not_installed : shown (next (delivered (record config { prefixes = (codes "f" ∷ []) ∷ [] }) ((codes "f" ∷ [], File []) ∷ [])) (Step (id 10)))
    ≡ (Reply.Faulted 4, (codes "f" ∷ [], File []) ∷ [], (pos 0, 1) ∷ [])
unfolding row free_row install blocks blocks_of
not_installed = simp look_ups

-- blocks -------------------------------------------------------------------------------

-- while old of 600 octets is deleted and src of 600 is appended to log: the blocks that are free, and those to spare
abbrev cleaning : Listed → ℕ → ℤ → World
cleaning es n spent =
    world (record config { blocks = 16 }) es (record (fresh 30 (list []) (Perform (DeleteFile (codes "old" ∷ [])) ∷ Perform
    (AppendFile (codes "log" ∷ []) (codes "src" ∷ [])) ∷ []) 0 18) { phase = Executing n; blocks_spent = spent } ∷ [])

abbrev rooms : World → ℕ × ℕ
rooms W = (free W, spare_blocks W)

before : rooms (cleaning ((codes "log" ∷ [], File []) ∷ (codes "old" ∷ [], File (replicate 600 6)) ∷ (codes "src" ∷ [], File (replicate 600 5)) ∷ []) 0 (pos 0))
    ≡ (3, 3)
unfolding blocks blocks_of
before = simp look_ups

-- what it gave back it may take again
between : rooms (cleaning ((codes "log" ∷ [], File []) ∷ (codes "src" ∷ [], File (replicate 600 5)) ∷ []) 1 (negsuc 5)) ≡ (9, 3)
unfolding blocks blocks_of
between = simp look_ups
