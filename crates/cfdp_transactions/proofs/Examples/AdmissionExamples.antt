-- Worked examples of verdicts: what is granted, each refusal, and which of two comes first.
use Rattle.std.proofs.Common.{◌≡◌, ℕ, zero, suc, ◌+◌, List, [], ◌∷◌, length, refl, length-append}
use Rattle.std.specs.Prelude.{codes, replicate, pos, negsuc}
use Rattle.cfdp_status.specs.declared.action.Action.TheVariants as action
use Rattle.cfdp_status.specs.declared.status.Status.TheVariants.{NotAllowed, DeleteAbsent}
use Rattle.cfdp_actions.specs.Filestore.{Directory, File, blocks_of, blocks}
use Rattle.cfdp_actions.specs.Actions.{Perform, CreateFile, AppendFile, DeleteFile, row, free_row, table, create, delete_file, rename, append, remove_directory, deny_file, deny_directory, install}
use Rattle.cfdp_leases.specs.Items.{step_bound}
use Rattle.cfdp_states.specs.Alone.{statuses, steps, peak}
use Rattle.cfdp_tlv.specs.Values.{RequestFields}
use Rattle.cfdp_pdus.specs.Values.{MetadataFields}
use Rattle.cfdp_verifier.specs.declared.refusal.Place.TheVariants as places
use Rattle.cfdp_verifier.specs.declared.refusal.Refusal.TheVariants.{TooManyRequests, BadPath, Conflict, DestinationNotAllowed, WouldFail, TooLong, NoRoom}
use Rattle.cfdp_transactions.specs.Entry.{Executing, Refused, Done, Ended, Entry}
use Rattle.cfdp_transactions.specs.Events.{Reply}
use Rattle.cfdp_transactions.specs.World.{World}
use Rattle.cfdp_transactions.specs.Admission.{refused_entry}
use Rattle.cfdp_transactions.specs.Next.{replies}
use Rattle.cfdp_transactions.proofs.Examples.Computing.{Listed, look_ups, conflicts}
use Rattle.cfdp_transactions.proofs.Examples.ExampleWords.{config, header, id, asks, asks_two, list, file_to, metadata, world, fresh}

abbrev proposed : World → MetadataFields → List Reply
proposed W m = replies W (metadata 7 m ∷ [])

-- where these entries exist and no transaction is known
abbrev judged : Listed → MetadataFields → List Reply
judged es m = proposed (world config es []) m

-- sys and what is below it is protected; sys and sys/a exist
abbrev guarded : MetadataFields → List Reply
guarded m = proposed (world (record config { prefixes = (codes "sys" ∷ []) ∷ [] })
    ((codes "sys" ∷ [], Directory) ∷ (codes "sys" ∷ codes "a" ∷ [], File []) ∷ []) []) m

-- what is granted --------------------------------------------------------------------

creates_one : judged [] (list (asks action.CreateFile (codes "a") ∷ [])) ≡ Reply.Admitted 1 2 ∷ []
unfolding statuses steps peak row free_row table create step_bound blocks blocks_of
creates_one = simp look_ups

-- two spellings of one path: the block is given back, the steps are not
creates_and_deletes : judged [] (list (asks action.CreateFile (codes "/a") ∷ asks action.DeleteFile (codes "a") ∷ [])) ≡ Reply.Admitted 1 4 ∷ []
unfolding statuses steps peak row free_row table create delete_file step_bound blocks blocks_of
creates_and_deletes = simp look_ups

-- what is absent is denied already
denials : judged [] (list (asks action.DenyFile (codes "z") ∷ asks action.DenyDirectory (codes "y/z") ∷ [])) ≡ Reply.Admitted 0 2 ∷ []
unfolding statuses steps peak row free_row table deny_file deny_directory step_bound blocks blocks_of
denials = simp look_ups

-- a file of 120 octets takes a block for its node and one for its octets
file_alone : judged [] (file_to (codes "f") 120 []) ≡ Reply.Admitted 2 2 ∷ []
unfolding statuses steps peak row free_row install step_bound blocks blocks_of
file_alone = simp look_ups

-- a file of unbounded size may be as long as the cap
unbounded : proposed (world (record config { cap = 240 }) [] []) (file_to (codes "f") 0 []) ≡ Reply.Admitted 3 2 ∷ []
unfolding statuses steps peak row free_row install step_bound blocks blocks_of
unbounded = simp look_ups

-- appended to itself: three blocks, and a step for each block that is read or taken
doubled : judged [] (file_to (codes "a") 120 (asks_two action.AppendFile (codes "a") (codes "a") ∷ [])) ≡ Reply.Admitted 3 5 ∷ []
unfolding statuses steps peak row free_row table append install step_bound blocks blocks_of
doubled = simp look_ups

-- a list that gives back six blocks before it takes five needs none
gives_before : judged ((codes "log" ∷ [], File []) ∷ (codes "old" ∷ [], File (replicate 600 6)) ∷ (codes "src" ∷ [], File (replicate 600 5)) ∷ [])
    (list (asks action.DeleteFile (codes "old") ∷ asks_two action.AppendFile (codes "log") (codes "src") ∷ [])) ≡ Reply.Admitted 0 18 ∷ []
unfolding statuses steps peak row free_row table delete_file append step_bound blocks blocks_of
gives_before = simp look_ups

-- requests and names -----------------------------------------------------------------

-- too many requests, before a name that is no path
many : judged [] (list (replicate 65 (asks action.CreateFile []))) ≡ Reply.Refused TooManyRequests ∷ []
many = refl

bad_path : judged [] (list (asks action.CreateFile (codes "a") ∷ asks action.CreateFile (codes "a//b") ∷ asks action.CreateFile [] ∷ []))
    ≡ Reply.Refused (BadPath (places.Request 1)) ∷ []
bad_path = refl

-- the destination's name, before a request's
bad_destination : judged [] (file_to (codes "..") 15 (asks action.CreateFile [] ∷ [])) ≡ Reply.Refused (BadPath places.Destination) ∷ []
bad_destination = refl

-- conflicts --------------------------------------------------------------------------

-- in the directory d, two live transactions create d/x and d/y
abbrev making : ℕ → List ℕ → Entry
making n name = fresh n (list (asks action.CreateFile name ∷ [])) (Perform (CreateFile (codes "d" ∷ name ∷ [])) ∷ []) 1 2

abbrev shared : List Entry → World
shared table = world config ((codes "d" ∷ [], Directory) ∷ []) table

-- they share d
beside : proposed (shared (making 22 (codes "x") ∷ [])) (list (asks action.CreateFile (codes "d/y") ∷ [])) ≡ Reply.Admitted 1 2 ∷ []
unfolding statuses steps peak row free_row table create step_bound blocks blocks_of
beside = simp (look_ups, conflicts)

abbrev removal : MetadataFields
removal = list (asks action.RemoveDirectory (codes "d") ∷ [])

-- the first in order of admission
first_conflicts : proposed (shared (making 22 (codes "x") ∷ making 23 (codes "y") ∷ [])) removal ≡ Reply.Refused (Conflict (id 22)) ∷ []
unfolding statuses steps peak row free_row table remove_directory step_bound blocks blocks_of
first_conflicts = simp (look_ups, conflicts)

-- one that is done leases nothing any more
done_leases_none : proposed (shared (record (making 22 (codes "x")) { phase = Done } ∷ making 23 (codes "y") ∷ [])) removal
    ≡ Reply.Refused (Conflict (id 23)) ∷ []
unfolding statuses steps peak row free_row table remove_directory step_bound blocks blocks_of
done_leases_none = simp (look_ups, conflicts)

-- one that ended leases nothing, and what it performed stays
ended_leases_none : proposed (world config ((codes "a" ∷ [], File []) ∷ [])
    (record (fresh 12 (list []) (Perform (CreateFile (codes "a" ∷ [])) ∷ Perform (CreateFile (codes "b" ∷ [])) ∷ []) 2 4) {
      phase = Ended 15;
      blocks_spent = pos 1;
      steps_spent = 2;
    } ∷ []))
    (list (asks action.DeleteFile (codes "a") ∷ [])) ≡ Reply.Admitted 0 2 ∷ []
unfolding statuses steps peak row free_row table delete_file step_bound blocks blocks_of
ended_leases_none = simp look_ups

-- a name that is no path, before a conflict
bad_path_first : proposed (shared (making 22 (codes "x") ∷ [])) (list (asks action.RemoveDirectory (codes "d") ∷ asks action.CreateFile [] ∷ []))
    ≡ Reply.Refused (BadPath (places.Request 1)) ∷ []
bad_path_first = refl

-- a conflict, before a destination that is a directory
conflict_first : proposed (shared (making 22 (codes "x") ∷ [])) (file_to (codes "d") 15 []) ≡ Reply.Refused (Conflict (id 22)) ∷ []
unfolding statuses steps peak row free_row install step_bound blocks blocks_of
conflict_first = simp (look_ups, conflicts)

-- destinations -----------------------------------------------------------------------

on_a_directory : proposed (shared []) (file_to (codes "d") 15 []) ≡ Reply.Refused DestinationNotAllowed ∷ []
unfolding statuses steps peak row free_row install step_bound blocks blocks_of
on_a_directory = simp look_ups

-- the parent is absent: before a request that would fail
no_parent : judged [] (file_to (codes "d/f") 15 (asks action.DeleteFile (codes "b") ∷ [])) ≡ Reply.Refused DestinationNotAllowed ∷ []
unfolding statuses steps peak row free_row table delete_file install step_bound blocks blocks_of
no_parent = simp look_ups

-- requests that would fail -----------------------------------------------------------

-- judged after those before it
third_fails : judged [] (list (asks action.CreateFile (codes "a") ∷ asks_two action.RenameFile (codes "a") (codes "b") ∷ asks action.DeleteFile
    (codes "a") ∷ [])) ≡ Reply.Refused (WouldFail 2 DeleteAbsent) ∷ []
unfolding statuses steps peak row free_row table create rename delete_file step_bound blocks blocks_of
third_fails = simp look_ups

twice : judged [] (list (asks action.CreateFile (codes "/a") ∷ asks action.CreateFile (codes "a") ∷ []))
    ≡ Reply.Refused (WouldFail 1 (NotAllowed action.CreateFile)) ∷ []
unfolding statuses steps peak row free_row table create step_bound blocks blocks_of
twice = simp look_ups

not_empty : judged ((codes "d" ∷ [], Directory) ∷ (codes "d" ∷ codes "x" ∷ [], File []) ∷ []) (list (asks action.DenyDirectory (codes "d") ∷ []))
    ≡ Reply.Refused (WouldFail 0 (NotAllowed action.DenyDirectory)) ∷ []
unfolding statuses steps peak row free_row table deny_directory step_bound blocks blocks_of
not_empty = simp look_ups

-- steps and blocks -------------------------------------------------------------------

abbrev doubling : List ℕ → List RequestFields → MetadataFields
doubling name more = list (asks_two action.AppendFile name name ∷ more)

-- a file a, where there are this many blocks in all
abbrev with_file : ℕ → List ℕ → World
with_file capacity octets = world (record config { blocks = capacity }) ((codes "a" ∷ [], File octets) ∷ []) []

-- a file of 32,768 blocks is appended to itself: one step too many, and one block too many as well
too_long : (octets : List ℕ) → length octets ≡ 3932160 → proposed (with_file 65536 octets) (doubling (codes "a") []) ≡ Reply.Refused (TooLong 65537) ∷ []
unfolding statuses steps peak row free_row table append step_bound blocks blocks_of
too_long octets long = simp (look_ups, long)

-- a request that would fail, before that
fails_first : (octets : List ℕ) → length octets ≡ 3932160 → proposed (with_file 65536 octets) (doubling (codes "a") (asks action.DeleteFile (codes "b") ∷ []))
    ≡ Reply.Refused (WouldFail 1 DeleteAbsent) ∷ []
unfolding statuses steps peak row free_row table append delete_file step_bound blocks blocks_of
fails_first octets long = simp (look_ups, long)

-- a file of 32,767 blocks: all blocks that are to spare are granted, and not one more
all_spare : (octets : List ℕ) → length octets ≡ 3932040 → proposed (with_file 65535 octets) (doubling (codes "a") []) ≡ Reply.Admitted 32767 65535 ∷ []
unfolding statuses steps peak row free_row table append step_bound blocks blocks_of
all_spare octets long = simp (look_ups, length-append, long)

one_short : (octets : List ℕ) → length octets ≡ 3932040 → proposed (with_file 65534 octets) (doubling (codes "a") []) ≡ Reply.Refused (NoRoom 32767 32766) ∷ []
unfolding statuses steps peak row free_row table append step_bound blocks blocks_of
one_short octets long = simp (look_ups, length-append, long)

-- what a live transaction was granted is not to spare: after the first of its two steps nine blocks are free, and six reserved
abbrev midway : World
midway = world (record config { blocks = 16 }) ((codes "log" ∷ [], File []) ∷ (codes "src" ∷ [], File (replicate 600 5)) ∷ [])
    (record (fresh 30 (list []) (Perform (DeleteFile (codes "old" ∷ [])) ∷ Perform (AppendFile (codes "log" ∷ []) (codes "src" ∷ [])) ∷ []) 0 18)
    { phase = Executing 1; blocks_spent = negsuc 5; steps_spent = 7 } ∷ [])

reserved : proposed midway (list (asks action.CreateFile (codes "1") ∷ asks action.CreateFile (codes "2") ∷ asks action.CreateFile
    (codes "3") ∷ asks action.CreateFile (codes "4") ∷ asks action.CreateFile (codes "5") ∷ [])) ≡ Reply.Refused (NoRoom 5 3) ∷ []
unfolding statuses steps peak row free_row table create step_bound blocks blocks_of
reserved = simp (look_ups, conflicts)

-- protected prefixes -----------------------------------------------------------------

not_deleted : guarded (list (asks action.DeleteFile (codes "sys/a") ∷ [])) ≡ Reply.Refused (WouldFail 0 (NotAllowed action.DeleteFile)) ∷ []
unfolding statuses steps peak row free_row table delete_file step_bound blocks blocks_of
not_deleted = refl

-- also where it is absent
not_denied : guarded (list (asks action.DenyFile (codes "sys/z") ∷ [])) ≡ Reply.Refused (WouldFail 0 (NotAllowed action.DenyFile)) ∷ []
unfolding statuses steps peak row free_row table deny_file step_bound blocks blocks_of
not_denied = refl

not_replaced : guarded (file_to (codes "sys/a") 15 []) ≡ Reply.Refused DestinationNotAllowed ∷ []
unfolding statuses steps peak row free_row install step_bound blocks blocks_of
not_replaced = simp look_ups

-- new paths may be made there
delivered_below : guarded (file_to (codes "sys/b") 15 []) ≡ Reply.Admitted 2 2 ∷ []
unfolding statuses steps peak row free_row install step_bound blocks blocks_of
delivered_below = simp look_ups

made_below : guarded (list (asks action.CreateFile (codes "sys/b") ∷ [])) ≡ Reply.Admitted 1 2 ∷ []
unfolding statuses steps peak row free_row table create step_bound blocks blocks_of
made_below = simp look_ups

-- the table --------------------------------------------------------------------------

abbrev refused_from : ℕ → ℕ → List Entry
refused_from zero n = []
refused_from (suc left) n = refused_entry (header n) (list []) Refused ∷ refused_from left (n + 1)

table_full : proposed (world config [] (refused_from 64 100)) (list []) ≡ Reply.TableFull ∷ []
table_full = refl

one_left : proposed (world config [] (refused_from 63 100)) (list []) ≡ Reply.Admitted 0 0 ∷ []
unfolding statuses steps peak blocks blocks_of
one_left = simp look_ups
