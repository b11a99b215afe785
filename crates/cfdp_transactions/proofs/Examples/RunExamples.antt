-- Worked examples of whole runs of a new entity, from the Metadata to the Finished PDU.
use Rattle.std.proofs.Common.{◌≡◌, [], ◌∷◌, refl}
use Rattle.std.specs.Prelude.{true, false, Some, None, codes}
use Rattle.cfdp_status.specs.declared.action.Action.TheVariants as action
use Rattle.cfdp_status.specs.declared.status.Status.TheVariants.{Successful, NotPerformed, DeleteAbsent}
use Rattle.cfdp_actions.specs.Filestore.{blocks_of, blocks}
use Rattle.cfdp_actions.specs.Actions.{row, free_row, table, create, delete_file, rename}
use Rattle.cfdp_leases.specs.Items.{step_bound}
use Rattle.cfdp_states.specs.Alone.{statuses, steps, peak}
use Rattle.cfdp_verifier.specs.declared.refusal.Refusal.TheVariants.{WouldFail}
use Rattle.cfdp_transactions.specs.Entry.{Done}
use Rattle.cfdp_transactions.specs.Events.{Step, Take, Reply}
use Rattle.cfdp_transactions.specs.World.{start, next_runnable}
use Rattle.cfdp_transactions.specs.Next.{replies}
use Rattle.cfdp_transactions.proofs.Examples.Computing.{look_ups}
use Rattle.cfdp_transactions.proofs.Examples.ExampleWords.{config, id, asks, asks_two, answers, answers_two, list, metadata, eof, fresh, executing, outcome}

-- one request
creates_one : replies (start config) (metadata 5 (list (asks action.CreateFile (codes "a") ∷ [])) ∷ eof 5 0 0 ∷ Step (id 5) ∷ Take (id 5) ∷ []) ≡
    Reply.Admitted 1 2 ∷ Reply.Complete ∷ Reply.Performed (Successful action.CreateFile) ∷ Reply.Taken (outcome 5 (record {
      condition = 0;
      incomplete = false;
      file_status = 3;
      responses = answers (Successful action.CreateFile) (codes "a") ∷ [];
      fault = None;
    })) ∷ []
unfolding statuses steps peak row free_row table create step_bound blocks blocks_of
creates_one = simp look_ups

-- no file and no request
empty : replies (start config) (metadata 6 (list []) ∷ eof 6 0 0 ∷ Step (id 6) ∷ Take (id 6) ∷ []) ≡
    Reply.Admitted 0 0 ∷ Reply.Done ∷ Reply.Idle ∷ Reply.Taken (outcome 6 (record {
      condition = 0;
      incomplete = false;
      file_status = 3;
      responses = [];
      fault = None;
    })) ∷ []
unfolding statuses steps peak blocks blocks_of
empty = simp look_ups

-- a list that is refused
third_fails : replies (start config) (metadata 7 (list (asks action.CreateFile (codes "a") ∷ asks_two action.RenameFile (codes "a")
    (codes "b") ∷ asks action.DeleteFile (codes "a") ∷ [])) ∷ Take (id 7) ∷ []) ≡
    Reply.Refused (WouldFail 2 DeleteAbsent) ∷ Reply.Taken (outcome 7 (record {
      condition = 4;
      incomplete = true;
      file_status = 3;
      responses = answers (NotPerformed action.CreateFile) (codes "a") ∷ answers_two (NotPerformed action.RenameFile) (codes "a") (codes "b") ∷ answers
          (NotPerformed action.DeleteFile) (codes "a") ∷ [];
      fault = Some 2;
    })) ∷ []
unfolding statuses steps peak row free_row table create rename delete_file step_bound blocks blocks_of
third_fails = simp look_ups

-- of those in Executing the one that was admitted first is the next
none_runs : next_runnable (fresh 5 (list []) [] 0 0 ∷ []) ≡ None
none_runs = refl

first_runs : next_runnable (fresh 5 (list []) [] 0 0 ∷ executing (fresh 6 (list []) [] 0 0) ∷ executing (fresh 7 (list []) [] 0 0) ∷ []) ≡ Some (id 6)
first_runs = refl

later_runs : next_runnable (record (fresh 6 (list []) [] 0 0) { phase = Done } ∷ executing (fresh 7 (list []) [] 0 0) ∷ []) ≡ Some (id 7)
later_runs = refl
