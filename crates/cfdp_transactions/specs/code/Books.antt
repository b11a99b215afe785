-- What only the proofs of the code need of `Books`.
--     world_of s b              the world that a store and the books are
--     FitsBudget q W            the quota has the free blocks, and the reserve of each live transaction in its slot
--     AreAllOf ranges xs        the ranges are pieces of the octets, and the last of them ends where these do
--     ArePiecesIn F r           a live transaction's ranges are those of what is staged for it
--     IsBooked s b              leases, quota and pieces say what the world says
--     IsLiveAt W k              the entry at k is live
--     EndsAt, TurnsAt           the entry at k ends;  moves to another phase;  and nothing else changes
--     IsDoneAt, IsBareAt        the entry at k is done;  it has no items
--     Carries W V answer reply  a call answered so, or out of memory
--     AnswersAt W V k f reply   to an event of the entry at k the reply and the next world are what f says
--     IsTakenAt W k piece       file data that the entry at k takes;  StoresAt: it is staged for it, and nothing else
--                               changes
--     IsSteady                  of the store before and after: its capacity stays, and whether it takes memory
use Rattle.std.specs.Prelude.{◌≡◌, ◌≢◌, ℕ, ◌+◌, ◌-◌, ◌≤◌, ◌<◌, Bool, true, ◌||◌, IsTrue, List, [], length, Option, Some, None, slice_get}
use Rattle.cfdp_pdus.specs.Values.{FileDataFields}
use Rattle.cfdp_pdus.specs.declared.eof.Eof.{Eof}
use Rattle.cfdp_actions.specs.Filestore.{Filestore, staged_in}
use Rattle.cfdp_actions.specs.Store.{Store}
use Rattle.cfdp_quota.specs.Budget.{Budget, entry_at, reserve_at, spare}
use Rattle.cfdp_transactions.specs.Entry.{Phase, Done, is_live, takes_data, Entry, reserve}
use Rattle.cfdp_transactions.specs.World.{World, free, reserves, leases_of}
use Rattle.cfdp_transactions.specs.Pieces.{Ranges}
use Rattle.cfdp_transactions.specs.code.Pieces.{end_of}
use Rattle.cfdp_transactions.specs.PieceLaws.{ArePieces}
use Rattle.cfdp_transactions.specs.Sound.{Each, IsVacant}
use Rattle.cfdp_transactions.specs.Received.{kept_with, pieces}
use Rattle.cfdp_transactions.specs.Events.{Reply}
use Rattle.cfdp_transactions.specs.Ending.{ends}
use Rattle.cfdp_transactions.specs.Delivery.{limit, stores, turns}
use Rattle.cfdp_transactions.specs.code.TableEntries.{TableEntryFields, table_of}
use Rattle.cfdp_transactions.specs.declared.books.Books.{Books}

abbrev pub world_of : Store → Books → World
world_of s b = record { config = b.config; filestore = s.filestore; table = table_of s.filestore b.table }

pub record FitsBudget (q : Budget) (W : World) : Type 0 where
  pub in_all : q.capacity ≡ W.config.blocks
  pub not_used : q.free ≡ free W
  pub not_granted : spare q + reserves W.table ≡ free W
  pub opened : Each (λ e. IsTrue (is_live e.phase) → entry_at q e.slot ≡ Some (reserve e)) W.table
  pub closed : (slot : ℕ) → IsVacant W.table slot → entry_at q slot ≡ None

pub record AreAllOf (ranges : Ranges) (xs : List ℕ) : Type 0 where
  pub pieces : ArePieces ranges xs
  pub to_end : end_of ranges ≡ length xs

abbrev pub ArePiecesIn : Filestore → TableEntryFields → Type 0
ArePiecesIn F r = IsTrue (is_live r.phase) → AreAllOf r.ranges (staged_in F r.slot)

pub record IsBooked (s : Store) (b : Books) : Type 0 where
  pub leases : b.leases ≡ leases_of (world_of s b).table
  pub budget : FitsBudget b.quota (world_of s b)
  pub capacity : s.capacity ≡ b.config.blocks
  pub few : b.config.blocks ≤ 65536
  pub pieces : (k : ℕ) (r : TableEntryFields) → slice_get b.table k ≡ Some r → ArePiecesIn s.filestore r

abbrev pub IsLiveAt : World → ℕ → Type 0
IsLiveAt W k = (e : Entry) × (slice_get W.table k ≡ Some e) × IsTrue (is_live e.phase)

abbrev pub EndsAt : World → World → ℕ → Bool → ℕ → Type 0
EndsAt W V k by_eof condition =
    (e : Entry) → slice_get W.table k ≡ Some e → V ≡ ends W k
    (record e { ended_by_eof = e.ended_by_eof || by_eof }) condition

abbrev pub TurnsAt : World → World → ℕ → Phase → Option Eof → Bool → Type 0
TurnsAt W V k phase eof complete = (e : Entry) → slice_get W.table k ≡ Some e → V ≡ turns W k e phase eof complete

-- the entry at k is done
abbrev pub IsDoneAt : World → World → ℕ → Type 0
IsDoneAt W V k = (e : Entry) → slice_get W.table k ≡ Some e → V ≡ turns W k e Done e.eof true

-- it has no items
abbrev pub IsBareAt : World → ℕ → Type 0
IsBareAt W k = (e : Entry) → slice_get W.table k ≡ Some e → e.items ≡ []

-- out of memory, nothing changed; otherwise the world after and the reply are the answer
abbrev pub Carries : World → World → World × Reply → Reply → Type 0
Carries W V answer Reply.Memory = V ≡ W
Carries W V answer reply = answer ≡ (V, reply)

-- of the entry at k
abbrev pub AnswersAt : World → World → ℕ → (Option Entry → World × Reply) → Reply → Type 0
AnswersAt W V k answer reply = (e : Entry) → slice_get W.table k ≡ Some e → Carries W V (answer (Some e)) reply

-- file data that is put at its offset: some octets, within the limit, in few pieces
pub record TakesPiece (W : World) (e : Entry) (piece : FileDataFields) : Type 0 where
  pub opens : IsTrue (takes_data e.phase)
  pub some : 0 < length piece.octets
  pub below : piece.offset + length piece.octets ≤ limit e.phase W.config e
  pub few : pieces (kept_with e.received piece.offset piece.octets) ≤ 32

abbrev pub IsTakenAt : World → ℕ → FileDataFields → Type 0
IsTakenAt W k piece = (e : Entry) × (slice_get W.table k ≡ Some e) × TakesPiece W e piece

abbrev pub StoresAt : World → World → ℕ → FileDataFields → Type 0
StoresAt W V k piece = (e : Entry) → slice_get W.table k ≡ Some e → V
    ≡ stores W k e (kept_with e.received piece.offset piece.octets)

-- the store's kind stays
abbrev pub IsSteady : Store → Store → Type 0
IsSteady old new = (new.takes_no_memory ≡ old.takes_no_memory) × (new.capacity ≡ old.capacity)

-- of the budget q and the later one p: this many blocks were free before, and this many are after
pub record BooksSlot (q p : Budget) (slot before after : ℕ) : Type 0 where
  pub all : p.capacity ≡ q.capacity
  pub unused : p.free + before ≡ q.free + after
  pub apart : spare p ≡ spare q
  pub here : entry_at p slot ≡ Some ((reserve_at q slot + after) - before)
  pub elsewhere : (other : ℕ) → other ≢ slot → entry_at p other ≡ entry_at q other
