-- From an event of the entry at an index to the next world.
use Rattle.std.proofs.Common.{◌≡◌, ℕ, zero, suc, ◌<◌, ◌≤◌, List, [], ◌∷◌, length, refl, ap, sym, ◌∙◌, arith}
use Rattle.std.specs.Prelude.{Bool, true, false, ◌==◌, if◌then◌else◌, nat_lt, nat_le, Option, Some, None, is_some, is_none, IfSome, IfNone, IsNone, IsTrue, IsFalse, slice_get}
use Rattle.std.proofs.lemmas.Bool.{and_parts, not-true, ltb-true, leb-true, lt-ltb, le-leb, lt-leb}
use Rattle.std.proofs.lemmas.Option.{slice_get_past}
use Rattle.cfdp_status.specs.declared.transaction.TransactionId.{TransactionId}
use Rattle.cfdp_pdus.specs.Values.{MetadataFields}
use Rattle.cfdp_pdus.specs.declared.header.Header.{Header}
use Rattle.cfdp_actions.specs.Filestore.{Filestore}
use Rattle.cfdp_actions.specs.Store.{Store}
use Rattle.cfdp_leases.specs.Leases.{is_same}
use Rattle.cfdp_verifier.specs.declared.refusal.Refusal.TheVariants.{TooManyRequests}
use Rattle.cfdp_transactions.specs.Entry.{Entry, id_of, is_live}
use Rattle.cfdp_transactions.specs.Events.{Event, MetadataCame, Reply}
use Rattle.cfdp_transactions.specs.World.{World, index_in, index_of, entry_of}
use Rattle.cfdp_transactions.specs.Next.{for_us, next}
use Rattle.cfdp_transactions.specs.Needs.{Follows, FollowsIsSound}
use Rattle.cfdp_transactions.specs.Outcome.{outcome_of}
use Rattle.cfdp_transactions.specs.declared.outcome.Outcome.{Outcome}
use Rattle.cfdp_transactions.specs.code.TableEntries.{TableEntryFields, entry_in, table_of, kept_name, kept_index}
use Rattle.cfdp_transactions.specs.code.Books.{AnswersAt, Carries, IsBooked, IsLiveAt, world_of}
use Rattle.cfdp_transactions.specs.CoreFields.{may_begin, outcome_in}
use Rattle.cfdp_transactions.specs.code.CoreFields.{IsWholeCore}
use Rattle.cfdp_transactions.specs.declared.books.Books.{Books}
use Rattle.cfdp_transactions.proofs.KeptTable.WorldOfTable.{index_among, get_in, table_entry_at}
use Rattle.cfdp_transactions.proofs.Options.{none_of, unless_some}

pub carries_follows : (W V : World) (event : Event) (reply : Reply) → Carries W V (next W event) reply → Follows W event reply V
carries_follows W V event Reply.Memory h = h
carries_follows W V event reply h = h

get_at : {X : Type 0} (xs : List X) (k : ℕ) → k < length xs → (x : X) × (slice_get xs k ≡ Some x)
get_at [] k h = absurd (omega arith)
get_at (x ∷ xs) zero h = (x, refl)
get_at (x ∷ xs) (suc k) h = get_at xs k (omega arith)

module _ (s : Store) (b : Books) (id : TransactionId) where
  abbrev W : World
  W = world_of s b

  pub index_is : index_of W id ≡ kept_index id b.table
  index_is = index_among s.filestore id b.table

  pub found_carries : (f : ℕ → Option Entry → World × Reply) (V : World) (reply : Reply) (index : ℕ) → index ≡ kept_index id b.table → index < length b.table →
      AnswersAt W V index (f index) reply → Carries W V (f (index_of W id) (entry_of W id)) reply
  found_carries f V reply index is within answers =
      let here = get_at b.table index within in
      let at = table_entry_at s.filestore b.table index here.0 here.1 in
      let is_index : index_of W id ≡ index = index_is ∙ sym is in
      rw (is_index, at) (answers (entry_in s.filestore here.0) at)

  pub absent_entry : kept_index id b.table ≡ length b.table → entry_of W id ≡ None
  absent_entry gone = rw (index_is, gone, get_in s.filestore b.table (length b.table), slice_get_past b.table (length b.table) (omega arith)) refl

-- a transaction that is there and has no outcome is live
live_by : (live : Bool) (o : Outcome) → IsNone (if live then None else Some o) → IsTrue live
live_by true o none = refl
live_by false o none = absurd cc

pub live_where_none : (W : World) (id : TransactionId) (e : Entry) → entry_of W id ≡ Some e → IsNone (outcome_in W id) → IsTrue (is_live e.phase)
live_where_none W id e there none = live_by (is_live e.phase) (outcome_of e) (rw there at none)

-- the outcome of a transaction that is over
pub outcome_where_over : (W : World) (id : TransactionId) (e : Entry) (given : Outcome) → entry_of W id ≡ Some e → outcome_in W id ≡ Some given →
    IsFalse (is_live e.phase) → given ≡ outcome_of e
outcome_where_over W id e given there made over = sym (unless_some (is_live e.phase) (outcome_of e) given (rw there at made))

module _ (s : Store) (b : Books) (id : TransactionId) where
  pub outcome_made : (index : ℕ) → index ≡ kept_index id b.table → (given : Outcome) → outcome_in (world_of s b) id ≡ Some given →
      (e : Entry) → slice_get (world_of s b).table index ≡ Some e → IsFalse (is_live e.phase) → given ≡ outcome_of e
  outcome_made index is given made e at over = outcome_where_over (world_of s b) id e given (rw (index_is s b id ∙ sym is) at) made over

  pub found_entry : (index : ℕ) → index ≡ kept_index id b.table → index < length b.table → (e : Entry) × (entry_of (world_of s b) id ≡ Some e)
  found_entry index is within =
      let here = get_at b.table index within in
      (entry_in s.filestore here.0, rw (index_is s b id ∙ sym is) (table_entry_at s.filestore b.table index here.0 here.1))

  -- where a look-up finds it, and where it finds nothing
  pub found_some : (o : Option ℕ) → IfSome o (λ index. index ≡ kept_index id b.table) → IfSome o (λ index. index < length b.table) → is_some o ≡ true →
      (e : Entry) × (entry_of (world_of s b) id ≡ Some e)
  found_some (Some index) is within some = found_entry index is within
  found_some None is within some = absurd cc

  pub absent_none : (o : Option ℕ) → IfNone o (kept_index id b.table ≡ length b.table) → is_some o ≡ false → entry_of (world_of s b) id ≡ None
  absent_none None gone none = absent_entry s b id gone
  absent_none (Some index) gone none = absurd cc

  pub live_index : (index : ℕ) → index ≡ kept_index id b.table → index < length b.table → IsNone (outcome_in (world_of s b) id) → IsLiveAt (world_of s b) index
  live_index index is within none =
      let here = get_at b.table index within in
      let at = table_entry_at s.filestore b.table index here.0 here.1 in
      (entry_in s.filestore here.0, at, live_where_none (world_of s b) id (entry_in s.filestore here.0) (rw (index_is s b id ∙ sym is) at) none)

pub still_whole : FollowsIsSound → (s t : Store) (b d : Books) (event : Event) (reply : Reply) → IsWholeCore s b →
    Follows (world_of s b) event reply (world_of t d) → IsBooked t d → IsWholeCore t d
still_whole law s t b d event reply whole follows booked = record { sound = law (world_of s b) event reply (world_of t d) whole.sound follows; booked = booked }

pub ours : (W V : World) (h : Header) (answer : World × Reply) (reply : Reply) → (h.destination == W.config.entity) ≡ true → Carries W V answer reply →
    Carries W V (for_us W h answer) reply
ours W V h answer reply mine carried = rw mine carried

-- Metadata that begin a transaction -------------------------------------------------

pub record Begins (W : World) (h : Header) (m : MetadataFields) : Type 0 where
  pub mine : (h.destination == W.config.entity) ≡ true
  pub absent : entry_of W (id_of h) ≡ None
  pub few : length W.table < 64
  pub short : length m.requests ≤ 64

pub begins_so : (W : World) (h : Header) (m : MetadataFields) → IsTrue (may_begin W h m) → Begins W h m
begins_so W h m begun =
    let last = and_parts _ (nat_le (length m.requests) 64) begun in
    let third = and_parts _ (nat_lt (length W.table) 64) last.0 in
    let first = and_parts (h.destination == W.config.entity) (is_none (entry_of W (id_of h))) third.0 in
    record { mine = first.0; absent = none_of (entry_of W (id_of h)) (not-true _ first.1); few = ltb-true _ _ third.1; short = leb-true _ _ last.1 }

pub begins_when : (W : World) (h : Header) (m : MetadataFields) → Begins W h m → IsTrue (may_begin W h m)
begins_when W h m b = rw (b.mine, b.absent, lt-ltb (length W.table) 64 b.few, le-leb (length m.requests) 64 b.short) refl

absent_step : (F : Filestore) (id : TransactionId) (r : TableEntryFields) (table_entries : List TableEntryFields) (b : Bool) →
    (slice_get (table_of F table_entries) (index_in id (table_of F table_entries)) ≡ None → kept_index id table_entries ≡ length table_entries) →
    slice_get (entry_in F r ∷ table_of F table_entries) (if b then 0 else suc (index_in id (table_of F table_entries))) ≡ None
    → (if b then 0 else suc (kept_index id table_entries))
    ≡ suc (length table_entries)
absent_step F id r table_entries true later none = absurd cc
absent_step F id r table_entries false later none = ap suc (later none)

absent_entries : (F : Filestore) (id : TransactionId) (table_entries : List TableEntryFields)
    → slice_get (table_of F table_entries) (index_in id (table_of F table_entries)) ≡ None →
    kept_index id table_entries
    ≡ length table_entries
absent_entries F id [] none = refl
absent_entries F id (r ∷ table_entries) none = absent_step F id r table_entries (is_same (kept_name r) id) (absent_entries F id table_entries) none

pub absent_index : (s : Store) (b : Books) (id : TransactionId) → entry_of (world_of s b) id ≡ None → kept_index id b.table ≡ length b.table
absent_index s b id none = absent_entries s.filestore id b.table none

-- and that begin none: they meet a full table, or have too long a list

pub full_answer : (W : World) (h : Header) (m : MetadataFields) → (h.destination == W.config.entity) ≡ true → entry_of W (id_of h) ≡ None →
    64 ≤ length W.table →
    next W (MetadataCame h m) ≡ (W, Reply.TableFull)
full_answer W h m mine absent full = rw (mine, absent, le-leb 64 (length W.table) full) refl

pub long_answer : (W : World) (h : Header) (m : MetadataFields) → (h.destination == W.config.entity) ≡ true → entry_of W (id_of h) ≡ None →
    length W.table < 64 →
    64 < length m.requests → next W (MetadataCame h m) ≡ (W, Reply.Refused TooManyRequests)
long_answer W h m mine absent few long = rw (mine, absent, lt-leb 64 (length W.table) few, lt-ltb 64 (length m.requests) long) refl
