-- The replies to events of a transaction that is there, by what the program did.
use Rattle.std.proofs.Common.{◌≡◌, ℕ, ◌+◌, ◌-◌, ◌≤◌, ◌<◌, refl, arith}
use Rattle.std.specs.Prelude.{true, false, nat_le, Some, slice_get, IsTrue}
use Rattle.std.proofs.lemmas.Bool.Decides.{nat_tests}
use Rattle.cfdp_actions.specs.Store.{Store}
use Rattle.cfdp_transactions.specs.Entry.{Phase, Awaiting, Executing, is_live, Entry}
use Rattle.cfdp_transactions.specs.Events.{Reply}
use Rattle.cfdp_transactions.specs.World.{World}
use Rattle.cfdp_transactions.specs.Ending.{ends, cancelled}
use Rattle.cfdp_transactions.specs.Delivery.{is_right_checksum, whole, checked}
use Rattle.cfdp_transactions.specs.code.TableEntries.{TableEntryFields, entry_in}
use Rattle.cfdp_transactions.specs.Books.{IsAnswered}
use Rattle.cfdp_transactions.specs.code.Books.{EndsAt, TurnsAt, IsLiveAt, Carries, world_of}
use Rattle.cfdp_actions.specs.Actions.{Answer}
use Rattle.cfdp_transactions.specs.Execution.{replied}
use Rattle.cfdp_transactions.specs.declared.books.Books.{Books}
use Rattle.cfdp_transactions.proofs.Indexes.{get_same}
use Rattle.cfdp_transactions.proofs.KeptTable.WorldOfTable.{table_entry_at}
use Rattle.std.proofs.Math.Bool.{or-false}

pub live_at : (s : Store) (b : Books) (k : ℕ) (r : TableEntryFields) → slice_get b.table k ≡ Some r → IsTrue (is_live r.phase) → IsLiveAt (world_of s b) k
live_at s b k r at live = (entry_in s.filestore r, table_entry_at s.filestore b.table k r at, live)

pub entry_is : (s : Store) (b : Books) (k : ℕ) (r : TableEntryFields) → slice_get b.table k ≡ Some r → (e : Entry) → slice_get (world_of s b).table k ≡ Some e →
    e
    ≡ entry_in s.filestore r
entry_is s b k r at e there = get_same (world_of s b).table k k e (entry_in s.filestore r) there (table_entry_at s.filestore b.table k r at) refl

pub phase_is : (s : Store) (b : Books) (k : ℕ) (r : TableEntryFields) → slice_get b.table k ≡ Some r → (e : Entry) → slice_get (world_of s b).table k ≡ Some e →
    (phase : Phase) → r.phase ≡ phase → e.phase ≡ phase
phase_is s b k r at e there phase is = rw (entry_is s b k r at e there) is

pub plain_end : (W V : World) (k condition : ℕ) → EndsAt W V k false condition → (e : Entry) → slice_get W.table k ≡ Some e → V ≡ ends W k e condition
plain_end W V k condition ended e at = rw (or-false e.ended_by_eof) at (ended e at)

pub cancel_answer : (W V : World) (k : ℕ) (e : Entry) → slice_get W.table k ≡ Some e → IsTrue (is_live e.phase) → EndsAt W V k false 15 → cancelled W k (Some e)
    ≡ (V, Reply.Cancelled)
cancel_answer W V k e at live ended = rw (live, plain_end W V k 15 ended e at) refl

pub check_fault : (W V : World) (k : ℕ) (e : Entry) (checks : ℕ) → slice_get W.table k ≡ Some e → e.phase ≡ Awaiting checks → W.config.checks - 1 ≤ checks →
    EndsAt W V k false 10 → checked W k (Some e) ≡ (V, Reply.Faulted 10)
check_fault W V k e checks at phase enough ended =
    let reached : nat_le W.config.checks (checks + 1) ≡ true = grind (arith, nat_tests) in
    rw (phase, reached, plain_end W V k 10 ended e at) refl

pub check_wait : (W V : World) (k : ℕ) (e : Entry) (checks : ℕ) → slice_get W.table k ≡ Some e → e.phase ≡ Awaiting checks → checks < W.config.checks - 1 →
    TurnsAt W V k (Awaiting (checks + 1)) e.eof e.complete →
    checked W k (Some e) ≡ (V, Reply.Waiting)
check_wait W V k e checks at phase few turned =
    let more : nat_le W.config.checks (checks + 1) ≡ false = grind (arith, nat_tests) in
    rw (phase, more, turned e at) refl

pub carry : (W V : World) (a : World × Reply) (reply : Reply) → IsAnswered reply → a ≡ (V, reply) → Carries W V a reply
carry W V a Reply.Memory h is = elim h [ ]
carry W V a reply h is = is

pub answered_reply : (answer : Answer) → IsAnswered (replied answer)
answered_reply (Answer.Performed status) = tt
answered_reply Answer.Installed = tt
answered_reply Answer.NotInstalled = tt

pub whole_fault : (W V : World) (k : ℕ) (e : Entry) (sum : ℕ) → slice_get W.table k ≡ Some e → is_right_checksum e sum ≡ false → EndsAt W V k false 5 →
    whole W k e sum ≡ (V, Reply.Faulted 5)
whole_fault W V k e sum at wrong ended = rw (wrong, plain_end W V k 5 ended e at) refl

pub whole_complete : (W V : World) (k : ℕ) (e : Entry) (sum : ℕ) → slice_get W.table k ≡ Some e → is_right_checksum e sum ≡ true →
    TurnsAt W V k (Executing 0) e.eof true → whole W k e sum ≡ (V, Reply.Complete)
whole_complete W V k e sum at right turned = rw (right, turned e at) refl
