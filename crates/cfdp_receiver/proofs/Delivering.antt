-- What comes in answer to NAK PDUs completes the file.
use Rattle.std.specs.Prelude.{nat_lt, ◌==◌, is_some, slice_get, slice_set}
use Rattle.std.specs.Option.{option_or}
use Rattle.std.specs.List.{AllByRecursion, list_all}
use Rattle.std.proofs.Common.{◌≡◌, ◌⊎◌, inl, inr, ℕ, zero, suc, ◌+◌, ◌<◌, ◌≤◌, min, true, false, List, [], ◌∷◌, length, Option, Some, None, refl, sym, ap, subst, ◌∙◌, arith}
use Rattle.std.proofs.lemmas.Bool.{cond_both, cond-true, cond-false, cases_lt, and_from, eq-eqb, ne_eqb, le-ltb, false≢true, both_ways}
use Rattle.cfdp_status.proofs.Options.{neither}
use Rattle.cfdp_pdus.specs.Values.{FileDataFields}
use Rattle.cfdp_pdus.specs.declared.eof.Eof.{Eof}
use Rattle.cfdp_pdus.specs.declared.header.Header.{Header}
use Rattle.cfdp_retransmission.specs.Coming.{Piece, AreAllKept, BringsMissing, brings}
use Rattle.cfdp_transactions.specs.Delivery.{is_right_checksum, whole, turned, turns, storing, stores, after_eof, stored, limit, data_at, data_came}
use Rattle.cfdp_transactions.specs.Ending.{ended, ends}
use Rattle.cfdp_transactions.specs.Entry.{Entry, id_of, takes_data}
use Rattle.cfdp_transactions.specs.Entry as Entries
use Rattle.cfdp_transactions.specs.Received.{Received, brought, kept_with, pieces, is_whole}
use Rattle.cfdp_transactions.specs.ReceivedLaws.{octet_at}
use Rattle.cfdp_transactions.specs.declared.event.Event.TheVariants.{Data as DataCame}
use Rattle.cfdp_transactions.specs.declared.phase.Phase.{Phase}
use Rattle.cfdp_transactions.specs.declared.phase.Phase.TheVariants.{Awaiting, Executing, Ended}
use Rattle.cfdp_transactions.specs.declared.reply.Reply.{Reply}
use Rattle.cfdp_transactions.specs.Next.{next, run}
use Rattle.cfdp_transactions.specs.World.{World, bound, index_in, entry_of, index_of}
use Rattle.cfdp_transactions.proofs.Finding.{found_name as entry_name}
use Rattle.cfdp_transactions.proofs.Lookups.{set_own}
use Rattle.cfdp_transactions.proofs.Indexes.{set_set_same}
use Rattle.cfdp_transactions.proofs.Received.OctetsAndGaps.{first_stays}
use Rattle.cfdp_receiver.specs.Laws.{piece_events, AnsweredIsDelivered}
use Rattle.cfdp_retransmission.proofs.Losing.{there_or_not}
use Rattle.cfdp_transactions.proofs.Soundness.Receiving.{kept_within}

-- ---- nothing is missing

pub all_there : (rs : Received) → ((i : ℕ) → i < length rs → is_some (octet_at rs i) ≡ true) → list_all is_some rs ≡ true
all_there [] h = refl
all_there (r ∷ rs) h = and_from (is_some r) (list_all is_some rs) (h zero (omega arith)) (all_there rs (λ i low. h (suc i) (omega (arith, low))))

pub past : (rs : Received) (i : ℕ) → length rs ≤ i → is_some (octet_at rs i) ≡ false
past [] i h = refl
past (r ∷ rs) zero h = absurd (omega (arith, h))
past (r ∷ rs) (suc i) h = past rs i (omega (arith, h))

pub whole_where_all : (size : ℕ) (rs : Received) → length rs ≤ size → ((i : ℕ) → i < size → is_some (octet_at rs i) ≡ true) → is_whole size rs ≡ true
whole_where_all size rs fits all =
    let long : size ≤ length rs = elim (cases_lt (length rs) size) [
      | inl short ↦ absurd (both_ways (is_some (octet_at rs (length rs))) (past rs (length rs) (omega arith)) (all (length rs) short))
      | inr enough ↦ enough
    ] in
    and_from (length rs == size) (list_all is_some rs) (eq-eqb (length rs) size (omega (arith, fits, long)))
    (all_there rs (λ i low. all i (omega (arith, low, fits))))

-- ---- one piece

abbrev Delivered : World → Header → Type 0
Delivered W h = (now : Entry) × (entry_of W (id_of h) ≡ Some now) × ((now.phase ≡ Executing 0) ⊎ (now.phase ≡ Ended 5))

-- no data is taken any more
pub takes_none : (phase : Phase) → (phase ≡ Executing 0) ⊎ (phase ≡ Ended 5) → takes_data phase ≡ false
takes_none phase (inl e) = ap takes_data e
takes_none phase (inr e) = ap takes_data e

idle_same : (W : World) (h : Header) (p : Piece) → Delivered W h → (next W (DataCame h (record { offset = p.0; octets = p.1 }))).0 ≡ W
idle_same W h p d =
    let k = index_of W (id_of h) in
    let piece : FileDataFields = record { offset = p.0; octets = p.1 } in
    let idle : (data_came W k piece (entry_of W (id_of h))).0 ≡ W =
    ap (λ (o : Option Entry). (data_came W k piece o).0) d.1
    ∙ ap (λ (a : World × Reply). a.0) (cond-false (takes_data d.0.phase) (data_at W k d.0 piece) (W, _) (takes_none d.0.phase d.2)) in
    cond_both (h.destination == W.config.entity) (data_came W k piece (entry_of W (id_of h))) (W, _) (λ (a : World × Reply). a.0 ≡ W) (λ e. idle) (λ e. refl)

idle_rest : (W : World) (h : Header) (ps : List Piece) → Delivered W h → Delivered (run W (piece_events h ps)) h
idle_rest W h [] d = d
idle_rest W h (p ∷ ps) d =
    let same = idle_same W h p d in
    subst (λ (V : World). Delivered (run V (piece_events h ps)) h) (sym same) (idle_rest W h ps d)

-- an entry that is put at its index
pub placed : (W V : World) (h : Header) (e new : Entry) → entry_of W (id_of h) ≡ Some e → Entries.name_of new ≡ id_of h → V.table
    ≡ slice_set W.table (index_of W (id_of h)) new → entry_of V (id_of h) ≡ Some new
placed W V h e new here name table = ap (λ (t : List Entry). slice_get t (index_in (id_of h) t)) table ∙ set_own W.table (id_of h) e new name here

-- ---- an entry that waits for octets

record Awaits (W : World) (h : Header) (eof : Eof) (made : ℕ) (e : Entry) : Type 0 where
  ours : h.destination ≡ W.config.entity
  here : entry_of W (id_of h) ≡ Some e
  phase : e.phase ≡ Awaiting made
  eof_is : e.eof ≡ Some eof
  fits : length e.received ≤ eof.size
  short : is_whole eof.size e.received ≡ false

-- it goes on waiting, with what came; or the file is delivered
data Comes (W V : World) (h : Header) (eof : Eof) (made : ℕ) (e : Entry) (received : Received) : Type 0 where
  Waits : (now : Entry) → (awaits : Awaits V h eof made now) → (kept : now.received ≡ received) →
      (same : bound V.config now.metadata ≡ bound W.config e.metadata) → Comes W V h eof made e received
  Over : (delivered : Delivered V h) → Comes W V h eof made e received

pub own_name : (W : World) (h : Header) (e : Entry) → entry_of W (id_of h) ≡ Some e → Entries.name_of e ≡ id_of h
own_name W h e here = entry_name W.table (id_of h) e here

-- all octets are there
whole_comes : (W V : World) (h : Header) (eof : Eof) (made : ℕ) (e new : Entry) (received : Received) → entry_of W (id_of h) ≡ Some e → Entries.name_of new
    ≡ id_of h →
    V.table ≡ slice_set W.table (index_of W (id_of h)) new → Comes W (whole V (index_of W (id_of h)) new eof.checksum).0 h eof made e received
whole_comes W V h eof made e new received here name table =
    let k = index_of W (id_of h) in
    let right : Entry = turned new (Executing 0) new.eof true in
    let wrong : Entry = ended V.filestore new 5 in
    let again : (other : Entry) → slice_set V.table k other ≡ slice_set W.table k other = λ other. ap (λ (t : List Entry). slice_set t k other) table
    ∙ set_set_same W.table k new other in
    cond_both (is_right_checksum new eof.checksum) (turns V k new (Executing 0) new.eof true, _) (ends V k new 5, _)
    (λ (a : World × Reply). Comes W a.0 h eof made e received)
    (λ r. Over (right, placed W (turns V k new (Executing 0) new.eof true) h e right here name (again right), inl refl))
    (λ r. Over (wrong, placed W (ends V k new 5) h e wrong here name (again wrong), inr refl))

stored_comes : (W : World) (h : Header) (eof : Eof) (made : ℕ) (e : Entry) (received : Received) → Awaits W h eof made e → length received ≤ eof.size →
    Comes W (stored e.phase (stores W (index_of W (id_of h)) e received) (index_of W (id_of h)) (storing W.filestore e received)).0 h eof made e received
stored_comes W h eof made e received a fits =
    let k = index_of W (id_of h) in
    let V = stores W k e received in
    let new : Entry = storing W.filestore e received in
    let name : Entries.name_of new ≡ id_of h = own_name W h e a.here in
    let waits : is_whole eof.size received ≡ false → Comes W V h eof made e received =
    λ short. Waits new (record { ours = a.ours; here = placed W V h e new a.here name refl; phase = a.phase; eof_is = a.eof_is; fits = fits; short = short })
    refl refl in
    let both : Comes W (after_eof (Some eof) V k new).0 h eof made e received =
    cond_both (is_whole eof.size received) (whole V k new eof.checksum) (V, _) (λ (b : World × Reply). Comes W b.0 h eof made e received)
    (λ w. whole_comes W V h eof made e new received a.here name refl) waits in
    subst (λ (p : Phase). Comes W (stored p V k new).0 h eof made e received) (sym a.phase)
    (subst (λ (o : Option Eof). Comes W (after_eof o V k new).0 h eof made e received) (sym a.eof_is) both)

-- no octets
empty_comes : (W : World) (h : Header) (eof : Eof) (made : ℕ) (e : Entry) (at : ℕ) → Awaits W h eof made e → Comes W W h eof made e (kept_with e.received at [])
empty_comes W h eof made e at a = Waits e a refl refl

-- some
some_comes : (W : World) (h : Header) (eof : Eof) (made : ℕ) (e : Entry) (at x : ℕ) (xs : List ℕ) → Awaits W h eof made e → at
    + length (x ∷ xs) ≤ min (bound W.config e.metadata) eof.size →
    pieces (kept_with e.received at (x ∷ xs)) ≤ 32 → Comes W (data_at W (index_of W (id_of h)) e (record { offset = at; octets = x ∷ xs })).0 h eof made e
    (kept_with e.received at (x ∷ xs))
some_comes W h eof made e at x xs a within few =
    let k = index_of W (id_of h) in
    let received = kept_with e.received at (x ∷ xs) in
    let P : World × Reply → Type 0 = λ b. Comes W b.0 h eof made e received in
    let end = at + length (x ∷ xs) in
    let top : limit e.phase W.config e ≡ min (bound W.config e.metadata) eof.size =
    ap (λ (p : Phase). limit p W.config e) a.phase ∙ ap (λ (o : Option Eof). min (bound W.config e.metadata) (Entries.awaited o)) a.eof_is in
    let last = stored e.phase (stores W k e received) k (storing W.filestore e received) in
    let fits : length received ≤ eof.size = kept_within e.received at (x ∷ xs) eof.size a.fits (omega (arith, within)) in
    subst P (sym (cond-false (length (x ∷ xs) == 0) (W, _) _ (ne_eqb (length (x ∷ xs)) 0 (λ z. absurd (omega (arith, z)))))) (
    subst P (sym (cond-false (nat_lt (limit e.phase W.config e) end) (ends W k e 6, _) _ (le-ltb (limit e.phase W.config e) end (omega (arith, top, within)))))
    (
    subst P (sym (cond-false (nat_lt 32 (pieces received)) (W, _) last (le-ltb 32 (pieces received) few))) (stored_comes W h eof made e received a fits)
    )
    )

data_by : (W : World) (h : Header) (eof : Eof) (made : ℕ) (e : Entry) (at : ℕ) (xs : List ℕ) → Awaits W h eof made e → at
    + length xs ≤ min (bound W.config e.metadata) eof.size →
    pieces (kept_with e.received at xs) ≤ 32 → Comes W (data_at W (index_of W (id_of h)) e (record { offset = at; octets = xs })).0 h eof made e
    (kept_with e.received at xs)
data_by W h eof made e at [] a within few = empty_comes W h eof made e at a
data_by W h eof made e at (x ∷ xs) a within few = some_comes W h eof made e at x xs a within few

data_comes : (W : World) (h : Header) (eof : Eof) (made : ℕ) (e : Entry) (p : Piece) → Awaits W h eof made e → p.0
    + length p.1 ≤ min (bound W.config e.metadata) eof.size →
    pieces (kept_with e.received p.0 p.1) ≤ 32 → Comes W (data_at W (index_of W (id_of h)) e (record { offset = p.0; octets = p.1 })).0 h eof made e
    (kept_with e.received p.0 p.1)
data_comes W h eof made e p a within few = data_by W h eof made e p.0 p.1 a within few

-- a piece that is not passed over, and does not end after the file
comes : (W : World) (h : Header) (eof : Eof) (made : ℕ) (e : Entry) (p : Piece) → Awaits W h eof made e → p.0
    + length p.1 ≤ min (bound W.config e.metadata) eof.size →
    pieces (kept_with e.received p.0 p.1) ≤ 32 → Comes W (next W (DataCame h (record { offset = p.0; octets = p.1 }))).0 h eof made e
    (kept_with e.received p.0 p.1)
comes W h eof made e p a within few =
    let k = index_of W (id_of h) in
    let piece : FileDataFields = record { offset = p.0; octets = p.1 } in
    let received = kept_with e.received p.0 p.1 in
    let taken : takes_data e.phase ≡ true = ap takes_data a.phase in
    let known : Comes W (data_came W k piece (Some e)).0 h eof made e received =
    subst (λ (b : World × Reply). Comes W b.0 h eof made e received) (sym (cond-true (takes_data e.phase) (data_at W k e piece) (W, _) taken))
    (data_comes W h eof made e p a within few) in
    subst (λ (b : World × Reply). Comes W b.0 h eof made e received) (sym (cond-true (h.destination == W.config.entity)
    (data_came W k piece (entry_of W (id_of h))) (W, _) (eq-eqb h.destination W.config.entity a.ours)))
    (subst (λ (o : Option Entry). Comes W (data_came W k piece o).0 h eof made e received) (sym a.here) known)

-- ---- all of them

abbrev Within : World → Entry → ℕ → List Piece → Type 0
Within W e size ps = AllByRecursion (λ p. p.0 + length p.1 ≤ min (bound W.config e.metadata) size) ps

answered_later : (size : ℕ) (rs : Received) (p : Piece) (ps : List Piece) → BringsMissing size rs (p ∷ ps) → BringsMissing size (kept_with rs p.0 p.1) ps
answered_later size rs p ps answers i low missing =
    let both : option_or (octet_at rs i) (brought p.0 p.1 i) ≡ None = sym (first_stays rs p.0 p.1 i) ∙ missing in
    let parts = neither (octet_at rs i) (brought p.0 p.1 i) both in
    sym (cond-false (is_some (brought p.0 p.1 i)) true (brings ps i) (ap is_some parts.1)) ∙ answers i low parts.0

delivers : (W : World) (h : Header) (eof : Eof) (made : ℕ) (e : Entry) (ps : List Piece) → Awaits W h eof made e → Within W e eof.size ps →
    AreAllKept e.received ps → BringsMissing eof.size e.received ps →
    Delivered (run W (piece_events h ps)) h
delivers W h eof made e [] a within kept answers =
    absurd (both_ways (is_whole eof.size e.received) a.short
    (whole_where_all eof.size e.received a.fits (λ i low. there_or_not (octet_at e.received i) (λ none. false≢true (answers i low none)))))
delivers W h eof made e (p ∷ ps) a within kept answers = elim (comes W h eof made e p a within.0 kept.0) [
  | Waits now awaits received same ↦
      delivers (next W (DataCame h (record { offset = p.0; octets = p.1 }))).0 h eof made now ps awaits
      (subst (λ (n : ℕ). AllByRecursion (λ (q : Piece). q.0 + length q.1 ≤ min n eof.size) ps) (sym same) within.1)
      (subst (λ (rs : Received). AreAllKept rs ps) (sym received) kept.1)
      (subst (λ (rs : Received). BringsMissing eof.size rs ps) (sym received) (answered_later eof.size e.received p ps answers))
  | Over delivered ↦ idle_rest (next W (DataCame h (record { offset = p.0; octets = p.1 }))).0 h ps delivered
]

pub answered_is_delivered : AnsweredIsDelivered
answered_is_delivered W h e eof made ps ours here phase eof_is fits short within kept answers =
    delivers W h eof made e ps (record { ours = ours; here = here; phase = phase; eof_is = eof_is; fits = fits; short = short }) within kept answers
