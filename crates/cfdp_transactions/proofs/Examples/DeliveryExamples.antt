-- Worked examples of deliveries and outcomes, computed from the definitions: from a world in which a transaction was just
-- admitted, what is replied to the events that follow.
use Rattle.std.proofs.Common.{◌≡◌, ℕ, zero, suc, ◌+◌, List, [], ◌∷◌, refl}
use Rattle.std.specs.Prelude.{true, false, pos, Some, None, codes}
use Rattle.cfdp_status.specs.declared.action.Action.TheVariants as action
use Rattle.cfdp_status.specs.declared.status.Status.TheVariants.{Successful, NotPerformed}
use Rattle.cfdp_actions.specs.Filestore.{empty_filestore, blocks_of}
use Rattle.cfdp_actions.specs.Actions.{Item, Install, Perform, CreateFile}
use Rattle.cfdp_checksum.specs.Checksum.{weighed_from}
use Rattle.cfdp_pdus.specs.Values.{MetadataFields, FinishedFields}
use Rattle.cfdp_transactions.specs.Entry.{Executing, Refused, Done, Entry, gaps}
use Rattle.cfdp_transactions.specs.Events.{Event, DataCame, EofCame, Step, Cancel, Check, Take, Reply}
use Rattle.cfdp_transactions.specs.World.{World, start}
use Rattle.cfdp_transactions.specs.Admission.{refused_entry}
use Rattle.cfdp_transactions.specs.Next.{run, replies}
use Rattle.cfdp_transactions.proofs.Examples.ExampleWords.{config, header, id, asks, asks_two, answers, answers_two, list, file_to, metadata, piece, eof, fresh, outcome}

-- of an empty filestore
abbrev with_entry : Entry → World
with_entry e = record { config = config; filestore = empty_filestore; table = e ∷ [] }

-- a file f
abbrev file : ℕ → MetadataFields
file size = file_to (codes "f") size []

abbrev file_world : ℕ → World
file_world size = with_entry (fresh 10 (file size) (Install (codes "f" ∷ []) ∷ []) 2 2)

abbrev second_part : Event
second_part = piece 10 8 (8 ∷ 9 ∷ 10 ∷ 11 ∷ 12 ∷ 13 ∷ 14 ∷ [])

abbrev first_part : Event
first_part = piece 10 0 (0 ∷ 1 ∷ 2 ∷ 3 ∷ 4 ∷ 5 ∷ 6 ∷ 7 ∷ 8 ∷ 9 ∷ [])

-- of its one transaction
abbrev gaps_of : World → List (ℕ × ℕ)
gaps_of W = gaps_in_table W.table
  where
    gaps_in_table : List Entry → List (ℕ × ℕ)
    gaps_in_table [] = []
    gaps_in_table (e ∷ es) = gaps e

-- data out of order and overlapping, and then the EOF
out_of_order : replies (file_world 15) (second_part ∷ first_part ∷ eof 10 0x181c2015 15 ∷ []) ≡ Reply.Stored ∷ Reply.Stored ∷ Reply.Complete ∷ []
unfolding blocks_of weighed_from
out_of_order = refl

-- the null checksum is not looked at, whatever the EOF says
not_looked_at : replies (with_entry (fresh 10 (record (file 15) { checksum_type = 15 }) (Install (codes "f" ∷ []) ∷ []) 2 2))
    (first_part ∷ second_part ∷ eof 10 0 15 ∷ []) ≡ Reply.Stored ∷ Reply.Stored ∷ Reply.Complete ∷ []
unfolding blocks_of weighed_from
not_looked_at = refl

-- what is missing, before and after the EOF
missing_first : gaps_of (run (file_world 15) (second_part ∷ [])) ≡ (0, 8) ∷ []
missing_first = refl

missing_last : gaps_of (run (file_world 15) (first_part ∷ eof 10 0 15 ∷ [])) ≡ (10, 15) ∷ []
missing_last = refl

missing_all : gaps_of (run (file_world 15) (eof 10 0x181c2015 15 ∷ [])) ≡ (0, 15) ∷ []
missing_all = refl

-- an octet that comes again is passed over
abbrev again : Event
again = piece 10 0 (255 ∷ [])

first_octet_stays : replies (file_world 15) (first_part ∷ again ∷ second_part ∷ eof 10 0x181c2015 15 ∷ [])
    ≡ Reply.Stored ∷ Reply.Stored ∷ Reply.Stored ∷ Reply.Complete ∷ []
unfolding blocks_of weighed_from
first_octet_stays = refl

-- a wrong checksum, and the outcome: discarded, incomplete, this entity at fault
abbrev faulted : ℕ → ℕ → FinishedFields
faulted condition status = record { condition = condition; incomplete = true; file_status = status; responses = []; fault = Some 2 }

wrong_checksum : replies (file_world 15) (first_part ∷ second_part ∷ eof 10 0x181c2014 15 ∷ Take (id 10) ∷ Take (id 10) ∷ []) ≡
    Reply.Stored ∷ Reply.Stored ∷ Reply.Faulted 5 ∷ Reply.Taken (outcome 10 (faulted 5 0)) ∷ Reply.Unknown ∷ []
unfolding blocks_of weighed_from
wrong_checksum = refl

-- an EOF that waits, two checks, and the outcome
checks_end : replies (file_world 15) (eof 10 0x181c2015 15 ∷ Check (id 10) ∷ Check (id 10) ∷ Check (id 10) ∷ Take (id 10) ∷ []) ≡
    Reply.Waiting ∷ Reply.Waiting ∷ Reply.Faulted 10 ∷ Reply.Idle ∷ Reply.Taken (outcome 10 (faulted 10 0)) ∷ []
unfolding blocks_of weighed_from
checks_end = refl

-- the missing octets come between the checks; then the EOF comes again
between_checks : replies (file_world 15) (eof 10 0x181c2015 15 ∷ Check (id 10) ∷ first_part ∷ second_part ∷ eof 10 0x181c2015 15 ∷ Check
    (id 10) ∷ first_part ∷ []) ≡
    Reply.Waiting ∷ Reply.Waiting ∷ Reply.Stored ∷ Reply.Complete ∷ Reply.Duplicate ∷ Reply.Idle ∷ Reply.Idle ∷ []
unfolding blocks_of weighed_from
between_checks = refl

-- past the declared size; an EOF of a greater size; an octet past the EOF's size
past_the_bound : replies (file_world 15) (piece 10 15 (1 ∷ []) ∷ Take (id 10) ∷ []) ≡ Reply.Faulted 6 ∷ Reply.Taken (outcome 10 (faulted 6 0)) ∷ []
unfolding blocks_of weighed_from
past_the_bound = refl

eof_past_the_bound : replies (file_world 15) (eof 10 0 16 ∷ []) ≡ Reply.Faulted 6 ∷ []
eof_past_the_bound = refl

octet_past_the_eof : replies (file_world 15) (first_part ∷ eof 10 0 9 ∷ []) ≡ Reply.Stored ∷ Reply.Faulted 6 ∷ []
octet_past_the_eof = refl

past_the_awaited_end : replies (file_world 15) (eof 10 0 9 ∷ first_part ∷ []) ≡ Reply.Waiting ∷ Reply.Faulted 6 ∷ []
past_the_awaited_end = refl

-- no octets at all are stored, wherever they are said to begin
no_octets : replies (file_world 15) (piece 10 99 [] ∷ []) ≡ Reply.Stored ∷ []
no_octets = refl

-- for another entity, and of a transaction that is not known
elsewhere : replies (file_world 15) (DataCame (record (header 10) { destination = 3 }) (record { offset = 0; octets = [] }) ∷ piece 11 0
    (1 ∷ []) ∷ eof 11 0 1 ∷ Step (id 11) ∷ Cancel (id 11) ∷ Check (id 11) ∷ Take (id 11) ∷ []) ≡
    Reply.NotForUs ∷ Reply.Unknown ∷ Reply.Unknown ∷ Reply.Unknown ∷ Reply.Unknown ∷ Reply.Unknown ∷ Reply.Unknown ∷ []
elsewhere = refl

-- the Metadata again; a step before the file is there; its outcome while it is live
too_early : replies (file_world 15) (metadata 10 (file 15) ∷ Step (id 10) ∷ Check (id 10) ∷ Take (id 10) ∷ [])
    ≡ Reply.Duplicate ∷ Reply.Idle ∷ Reply.Idle ∷ Reply.Idle ∷ []
too_early = refl

-- 32 pieces and no more
abbrev single : ℕ → Event
single at = piece 10 at (7 ∷ [])

abbrev every_other : ℕ → ℕ → List Event
every_other zero at = []
every_other (suc n) at = single at ∷ every_other n (at + 2)

pieces_limit : replies (run (file_world 0) (every_other 32 0)) (single 64 ∷ single 1 ∷ single 64 ∷ []) ≡ Reply.Dropped ∷ Reply.Stored ∷ Reply.Stored ∷ []
unfolding blocks_of weighed_from
pieces_limit = refl

-- requests ---------------------------------------------------------------------------

abbrev three : MetadataFields
three = list (asks action.CreateFile (codes "a") ∷ asks action.CreateFile (codes "b") ∷ asks action.CreateFile (codes "c") ∷ [])

abbrev items : List Item
items = Perform (CreateFile (codes "a" ∷ [])) ∷ Perform (CreateFile (codes "b" ∷ [])) ∷ Perform (CreateFile (codes "c" ∷ [])) ∷ []

-- after the first of three creates
abbrev midway : Entry
midway = record (fresh 12 three items 3 6) {
  phase = Executing 1;
  complete = true;
  statuses = Successful action.CreateFile ∷ [];
  blocks_spent = pos 1;
  steps_spent = 2;
}

-- a cancel midway: what was performed stays, the rest was not performed
cancelled_midway : replies (with_entry midway) (Cancel (id 12) ∷ Cancel (id 12) ∷ Take (id 12) ∷ []) ≡
    Reply.Cancelled ∷ Reply.Idle ∷ Reply.Taken (outcome 12 (record {
      condition = 15;
      incomplete = false;
      file_status = 3;
      responses = answers (Successful action.CreateFile) (codes "a") ∷ answers (NotPerformed action.CreateFile) (codes "b") ∷ answers
          (NotPerformed action.CreateFile) (codes "c") ∷ [];
      fault = Some 2;
    })) ∷ []
unfolding blocks_of weighed_from
cancelled_midway = refl

-- an EOF with a condition: the sender is at fault
ended_by_sender : replies (with_entry (fresh 26 three items 3 6)) (EofCame (header 26) (record { condition = 15; checksum = 0; size = 0 }) ∷ Take (id 26) ∷ [])
    ≡
    Reply.Faulted 15 ∷ Reply.Taken (outcome 26 (record {
      condition = 15;
      incomplete = true;
      file_status = 3;
      responses = answers (NotPerformed action.CreateFile) (codes "a") ∷ answers (NotPerformed action.CreateFile) (codes "b") ∷ answers
          (NotPerformed action.CreateFile) (codes "c") ∷ [];
      fault = Some 1;
    })) ∷ []
unfolding blocks_of weighed_from
ended_by_sender = refl

-- a list without items is done at its EOF
empty_list : replies (with_entry (fresh 6 (list []) [] 0 0)) (eof 6 0 0 ∷ Step (id 6) ∷ Take (id 6) ∷ []) ≡
    Reply.Done ∷ Reply.Idle ∷ Reply.Taken (outcome 6 (record { condition = 0; incomplete = false; file_status = 3; responses = []; fault = None })) ∷ []
empty_list = refl

-- a list without a file is complete at its EOF
no_file : replies (with_entry (fresh 12 three items 3 6)) (eof 12 1 1 ∷ []) ≡ Reply.Complete ∷ []
no_file = refl

-- one that was refused
refused : replies (with_entry (refused_entry (header 15) (file 15) Refused)) (piece 15 0 (1 ∷ []) ∷ eof 15 0 15 ∷ Cancel (id 15) ∷ Take (id 15) ∷ []) ≡
    Reply.Idle ∷ Reply.Idle ∷ Reply.Idle ∷ Reply.Taken (outcome 15 (faulted 4 1)) ∷ []
refused = refl

-- a list that was refused: none of its requests was performed, and this entity is at fault
refused_list : replies (with_entry (refused_entry (header 7) (list (asks action.CreateFile (codes "a") ∷ asks_two action.RenameFile (codes "a")
    (codes "b") ∷ asks action.DeleteFile (codes "a") ∷ [])) Refused)) (Take (id 7) ∷ []) ≡
    Reply.Taken (outcome 7 (record {
      condition = 4;
      incomplete = true;
      file_status = 3;
      responses = answers (NotPerformed action.CreateFile) (codes "a") ∷ answers_two (NotPerformed action.RenameFile) (codes "a") (codes "b") ∷ answers
          (NotPerformed action.DeleteFile) (codes "a") ∷ [];
      fault = Some 2;
    })) ∷ []
refused_list = refl

-- one that is done: the file is retained, and each request has its status, in the spelling that was sent
abbrev finished_entry : Entry
finished_entry = record (fresh 8 (file_to (codes "f") 15 (asks action.CreateFile (codes "/a") ∷ asks action.DeleteFile (codes "a") ∷ [])) [] 3 6) {
  phase = Done;
  complete = true;
  installed = true;
  statuses = Successful action.CreateFile ∷ Successful action.DeleteFile ∷ [];
}

done : replies (with_entry finished_entry) (Cancel (id 8) ∷ Take (id 8) ∷ []) ≡
    Reply.Idle ∷ Reply.Taken (outcome 8 (record {
      condition = 0;
      incomplete = false;
      file_status = 2;
      responses = answers (Successful action.CreateFile) (codes "/a") ∷ answers (Successful action.DeleteFile) (codes "a") ∷ [];
      fault = None;
    })) ∷ []
done = refl

-- an unsupported checksum type: nobody is at fault
unsupported_checksum : replies (start config) (metadata 27 (record (file 15) { checksum_type = 2 }) ∷ Take (id 27) ∷ []) ≡
    Reply.Faulted 11 ∷ Reply.Taken (outcome 27 (record (faulted 11 0) { fault = None })) ∷ []
unsupported_checksum = refl

-- unacknowledged and no closure requested: not sent
not_sent : replies (with_entry (refused_entry (header 17) (record (file 15) { closure = false }) Refused)) (Take (id 17) ∷ [])
    ≡ Reply.Taken (record (outcome 17 (faulted 4 1)) { send = false }) ∷ []
not_sent = refl

-- acknowledged: sent all the same
sent : replies (with_entry (refused_entry (record (header 16) { acknowledged = true }) (record (file 15) { closure = false }) Refused)) (Take (id 16) ∷ []) ≡
    Reply.Taken (record { header = record (header 16) { toward_sender = true; acknowledged = true }; finished = faulted 4 1; send = true }) ∷ []
sent = refl
