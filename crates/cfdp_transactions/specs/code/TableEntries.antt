-- Transactions as the program keeps them: received octets are ranges, whose octets lie in the filestore, and statuses
-- are a number, since each request that was performed was successful.
--     TableEntryFields          a transaction of the program's table
--     received_by F r           what was received, by its ranges and what is staged in its slot
--     entry_in F r, table_of    the entry that it is, over a filestore;  all of them
--     kept_name, kept_index     its name;  where a transaction is in the table: the length where it is not there
--     first_executing           the first one in Executing
--     first_entry_over          the first one that is over
--     kept_progress, kept_reach, kept_reach_in  the end of its last octet;  up to where its gaps say, by its phase
--     kept_gaps r, kept_gaps_in  what is missing between its ranges, and up to the size of its EOF;  by its phase
--     fresh_entry               an entry with nothing received and nothing spent
--     entry_ended, entry_turned  an entry that ends, as `ended` says;  that moves to another phase
--     entry_stored              an entry for which octets were staged
--     entry_stepped             an entry whose next item went well
use Rattle.std.specs.Prelude.{ℕ, suc, ◌+◌, ℤ, pos, Bool, false, ◌||◌, if◌then◌else◌, List, [], ◌∷◌, map, take, Option, Some, None}
use Rattle.cfdp_status.specs.declared.transaction.TransactionId.{TransactionId}
use Rattle.cfdp_pdus.specs.Values.{MetadataFields}
use Rattle.cfdp_pdus.specs.declared.header.Header.{Header}
use Rattle.cfdp_pdus.specs.declared.eof.Eof.{Eof}
use Rattle.cfdp_actions.specs.Actions.{Item}
use Rattle.cfdp_actions.specs.Filestore.{Filestore, staged_in}
use Rattle.cfdp_leases.specs.Leases.{is_same}
use Rattle.cfdp_transactions.specs.Received.{Received}
use Rattle.cfdp_transactions.specs.Pieces.{Ranges, received_in, with_range, between}
use Rattle.cfdp_transactions.specs.code.Pieces.{end_of}
use Rattle.cfdp_transactions.specs.Entry.{Phase, Receiving, Awaiting, Executing, Done, Ended, awaited, is_live, is_executing, id_of, Entry, spend}
use Rattle.cfdp_transactions.specs.Sound.{all_successful}

pub record TableEntryFields : Type 0 where
  pub header : Header
  pub metadata : MetadataFields
  pub phase : Phase
  pub eof : Option Eof
  pub complete : Bool
  pub installed : Bool
  pub ended_by_eof : Bool
  pub ranges : Ranges
  pub slot : ℕ
  pub items : List Item
  pub performed : ℕ
  pub blocks_granted : ℕ
  pub steps_granted : ℕ
  pub blocks_spent : ℤ
  pub steps_spent : ℕ

-- nothing, once it is no longer live
abbrev pub received_by : Filestore → TableEntryFields → Received
received_by F r = if is_live r.phase then received_in r.ranges (staged_in F r.slot) else []

abbrev pub entry_in : Filestore → TableEntryFields → Entry
entry_in F r = record {
  header = r.header;
  metadata = r.metadata;
  phase = r.phase;
  eof = r.eof;
  complete = r.complete;
  installed = r.installed;
  ended_by_eof = r.ended_by_eof;
  received = received_by F r;
  slot = r.slot;
  items = r.items;
  statuses = take r.performed (all_successful r.metadata.requests);
  blocks_granted = r.blocks_granted;
  steps_granted = r.steps_granted;
  blocks_spent = r.blocks_spent;
  steps_spent = r.steps_spent;
}

abbrev pub table_of : Filestore → List TableEntryFields → List Entry
table_of F table_entries = map (entry_in F) table_entries

abbrev pub kept_name : TableEntryFields → TransactionId
kept_name r = id_of r.header

abbrev pub kept_index : TransactionId → List TableEntryFields → ℕ
kept_index id [] = 0
kept_index id (r ∷ rs) = if is_same (kept_name r) id then 0 else suc (kept_index id rs)

abbrev pub first_executing : List TableEntryFields → Option TransactionId
first_executing [] = None
first_executing (r ∷ rs) = if is_executing r.phase then Some (kept_name r) else first_executing rs

abbrev pub first_entry_over : List TableEntryFields → Option TransactionId
first_entry_over [] = None
first_entry_over (r ∷ rs) = if is_live r.phase then first_entry_over rs else Some (kept_name r)

abbrev pub kept_progress : TableEntryFields → ℕ
kept_progress r = if is_live r.phase then end_of r.ranges else 0

abbrev pub kept_reach_in : Phase → TableEntryFields → ℕ
kept_reach_in Receiving r = end_of r.ranges
kept_reach_in (Awaiting checks) r = awaited r.eof
kept_reach_in phase r = 0

abbrev pub kept_reach : TableEntryFields → ℕ
kept_reach r = kept_reach_in r.phase r

abbrev pub kept_gaps_in : Phase → TableEntryFields → Ranges
kept_gaps_in Receiving r = between 0 r.ranges (end_of r.ranges)
kept_gaps_in (Awaiting checks) r = between 0 r.ranges (awaited r.eof)
kept_gaps_in phase r = []

abbrev pub kept_gaps : TableEntryFields → Ranges
kept_gaps r = kept_gaps_in r.phase r

abbrev pub fresh_entry : Header → MetadataFields → Phase → ℕ → List Item → ℕ → ℕ → TableEntryFields
fresh_entry h m phase slot items blocks steps = record {
  header = h;
  metadata = m;
  phase = phase;
  eof = None;
  complete = false;
  installed = false;
  ended_by_eof = false;
  ranges = [];
  slot = slot;
  items = items;
  performed = 0;
  blocks_granted = blocks;
  steps_granted = steps;
  blocks_spent = pos 0;
  steps_spent = 0;
}

-- the blocks of what was staged are given back
abbrev pub entry_ended : TableEntryFields → ℕ → Bool → ℕ → TableEntryFields
entry_ended r condition by_eof given = record r {
  phase = Ended condition;
  ended_by_eof = r.ended_by_eof || by_eof;
  ranges = [];
  blocks_spent = spend r.blocks_spent 0 given;
}

abbrev pub entry_turned : TableEntryFields → Phase → Option Eof → Bool → TableEntryFields
entry_turned r phase eof complete = record r { phase = phase; eof = eof; complete = complete }

-- the octets of a range were staged, for which this many blocks were taken
abbrev pub entry_stored : TableEntryFields → (start end taken : ℕ) → TableEntryFields
entry_stored r start end taken = record r {
  ranges = with_range start end r.ranges;
  blocks_spent = spend r.blocks_spent taken 0;
}

-- its item `next` went well: it was the install, or a request; the free blocks were this many before and after
abbrev pub entry_stepped : TableEntryFields → (next : ℕ) (last install : Bool) (before after ticks : ℕ) →
    TableEntryFields
entry_stepped r next last install before after ticks = record r {
  phase = if last then Done else Executing (suc next);
  installed = r.installed || install;
  ranges = [];
  performed = if install then r.performed else suc r.performed;
  blocks_spent = spend r.blocks_spent before after;
  steps_spent = r.steps_spent + (1 + ticks);
}
