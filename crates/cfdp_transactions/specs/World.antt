-- The receiving entity: its configuration, its filestore, and its table of transactions in order of admission.
--     World, start c            the filestore is empty and no transaction is known
--     free, reserves, spare_blocks  free blocks;  the live transactions' reserves;  the blocks that nobody was granted
--     index_in, index_of, entry_of      where a transaction is in the table, and its entry
--     leases_of                 the live transactions' footprints
--     has_slot, slot_from       a live transaction has the slot;  the least from a slot on, of this many, that none has
--     free_slot                 the least slot that no live transaction has
--     bound                     how long a transaction's file may be
--     next_runnable             the first transaction in Executing
--     next_outcome              the first transaction whose outcome can be taken: it is refused, done or ended
--     change_at W k changes e   the filestore and the entry at k change, and nothing else
use Rattle.std.specs.Prelude.{ℕ, zero, suc, ◌+◌, ◌-◌, Bool, ◌&&◌, ◌==◌, if◌then◌else◌, List, [], ◌∷◌, Option, Some, None, slice_get, slice_set}
use Rattle.std.specs.List.{list_any}
use Rattle.cfdp_status.specs.declared.transaction.TransactionId.{TransactionId}
use Rattle.cfdp_actions.specs.Filestore.{Filestore, empty_filestore, blocks, Change, after}
use Rattle.cfdp_transactions.specs.Config.{Config}
use Rattle.cfdp_pdus.specs.Values.{MetadataFields}
use Rattle.cfdp_leases.specs.Footprint.{Footprint}
use Rattle.cfdp_leases.specs.Leases.{is_same}
use Rattle.cfdp_transactions.specs.Entry.{is_live, is_executing, Entry, name_of, has_file, footprint, reserve}

pub record World : Type 0 where
  pub config : Config
  pub filestore : Filestore
  pub table : List Entry

abbrev pub start : Config → World
start c = record { config = c; filestore = empty_filestore; table = [] }

abbrev pub free : World → ℕ
free W = W.config.blocks - blocks W.filestore

abbrev pub reserves : List Entry → ℕ
reserves [] = 0
reserves (e ∷ es) = reserve e + reserves es

abbrev pub spare_blocks : World → ℕ
spare_blocks W = free W - reserves W.table

-- the table's length where it is not there
abbrev pub index_in : TransactionId → List Entry → ℕ
index_in id [] = 0
index_in id (e ∷ es) = if is_same (name_of e) id then 0 else suc (index_in id es)

abbrev pub index_of : World → TransactionId → ℕ
index_of W id = index_in id W.table

abbrev pub entry_of : World → TransactionId → Option Entry
entry_of W id = slice_get W.table (index_of W id)

abbrev pub leases_of : List Entry → List (TransactionId × Footprint)
leases_of [] = []
leases_of (e ∷ es) = if is_live e.phase then (name_of e, footprint e) ∷ leases_of es else leases_of es

abbrev pub has_slot : ℕ → Entry → Bool
has_slot slot e = is_live e.phase && (e.slot == slot)

-- the first from `slot` on, of this many, that no live entry has
abbrev pub slot_from : ℕ → ℕ → List Entry → ℕ
slot_from zero slot table = slot
slot_from (suc more) slot table = if list_any (has_slot slot) table then slot_from more (slot + 1) table else slot

abbrev pub free_slot : List Entry → ℕ
free_slot table = slot_from 64 0 table

-- 0 without a file; the declared size; the cap where that is 0, unbounded
abbrev pub bound : Config → MetadataFields → ℕ
bound c m = if has_file m then (if m.size == 0 then c.cap else m.size) else 0

abbrev pub next_runnable : List Entry → Option TransactionId
next_runnable [] = None
next_runnable (e ∷ es) = if is_executing e.phase then Some (name_of e) else next_runnable es

abbrev pub next_outcome : List Entry → Option TransactionId
next_outcome [] = None
next_outcome (e ∷ es) = if is_live e.phase then next_outcome es else Some (name_of e)

abbrev pub change_at : World → ℕ → List Change → Entry → World
change_at W k changes new = record W { filestore = after W.filestore changes; table = slice_set W.table k new }
