-- What a piece does to an entry that waits for octets: the entry goes on waiting with what it keeps of the piece, or the file is delivered.
use Rattle.std.specs.Prelude.{nat_lt, ◌==◌, slice_get, slice_set}
use Rattle.std.proofs.Common.{◌≡◌, inl, inr, ℕ, ◌+◌, ◌≤◌, min, true, false, List, [], ◌∷◌, length, replicate, Option, Some, refl, sym, ap, subst, ◌∙◌, arith}
use Rattle.std.proofs.lemmas.Bool.{cond_both, cond-true, cond-false, cases_lt, eq-eqb, ne_eqb, le-ltb, lt-ltb}
use Rattle.cfdp_status.specs.declared.transaction.TransactionId.{TransactionId}
use Rattle.cfdp_pdus.specs.Values.{FileDataFields}
use Rattle.cfdp_pdus.specs.declared.eof.Eof.{Eof}
use Rattle.cfdp_pdus.specs.declared.header.Header.{Header}
use Rattle.cfdp_retransmission.specs.Coming.{keep}
use Rattle.cfdp_transactions.specs.Delivery.{is_right_checksum, whole, turned, turns, storing, stores, after_eof, stored, limit, data_at, data_came}
use Rattle.cfdp_transactions.specs.Ending.{ended, ends}
use Rattle.cfdp_transactions.specs.Entry.{Entry, id_of, is_live, takes_data, awaited}
use Rattle.cfdp_transactions.specs.Entry as Entries
use Rattle.cfdp_transactions.specs.Received.{Received, kept_with, pieces, is_whole}
use Rattle.cfdp_transactions.specs.declared.event.Event.TheVariants.{Data as DataCame}
use Rattle.cfdp_transactions.specs.declared.phase.Phase.{Phase}
use Rattle.cfdp_transactions.specs.declared.phase.Phase.TheVariants.{Executing}
use Rattle.cfdp_transactions.specs.declared.reply.Reply.{Reply}
use Rattle.cfdp_transactions.specs.Next.{next}
use Rattle.cfdp_transactions.specs.Sound.{Sound, IsKept, longest_in}
use Rattle.cfdp_transactions.specs.World.{World, bound, index_in, entry_of, index_of}
use Rattle.cfdp_transactions.proofs.Finding.{found_name as entry_name}
use Rattle.cfdp_transactions.proofs.Lookups.{set_own}
use Rattle.cfdp_transactions.proofs.Indexes.{set_set_same}
use Rattle.cfdp_progress.specs.Awaiting.{EntryAwaits, IsDelivered}
use Rattle.cfdp_receiver.proofs.OffsetsFit.{zeros}

-- ---- what a sound world gives

kept_of : (W : World) (id : TransactionId) (e : Entry) (eof : Eof) → Sound W → EntryAwaits W id e eof → IsKept W.config W.filestore e
kept_of W id e eof sound a = sound.live (index_of W id) e a.here (ap is_live a.phase)

pub fits_of : (W : World) (id : TransactionId) (e : Entry) (eof : Eof) → Sound W → EntryAwaits W id e eof → length e.received ≤ eof.size
fits_of W id e eof sound a =
    let longest : longest_in e.phase W.config e ≡ replicate eof.size 0 =
    ap (λ (p : Phase). longest_in p W.config e) a.phase ∙ ap (λ (o : Option Eof). replicate (awaited o) 0) a.came in
    omega (arith, (kept_of W id e eof sound a).fits, ap (λ (xs : List ℕ). length xs) longest, zeros eof.size)

pub few_of : (W : World) (id : TransactionId) (e : Entry) (eof : Eof) → Sound W → EntryAwaits W id e eof → pieces e.received ≤ 32
few_of W id e eof sound a = (kept_of W id e eof sound a).pieces

-- ---- one piece

pub data Comes (V : World) (id : TransactionId) (eof : Eof) (received : Received) : Type 0 where
  Goes_on : (after : Entry) → (awaits : EntryAwaits V id after eof) → (kept : after.received ≡ received) → Comes V id eof received
  Is_over : (delivered : IsDelivered V id) → Comes V id eof received

-- an entry that replaces the one of its name
pub replaces : (W V : World) (id : TransactionId) (e new : Entry) → entry_of W id ≡ Some e → Entries.name_of new ≡ id →
    V.table ≡ slice_set W.table (index_of W id) new → entry_of V id ≡ Some new
replaces W V id e new here name table = ap (λ (t : List Entry). slice_get t (index_in id t)) table ∙ set_own W.table id e new name here

-- all octets are there
whole_comes : (W V : World) (id : TransactionId) (eof : Eof) (e new : Entry) (received : Received) → entry_of W id ≡ Some e → Entries.name_of new ≡ id →
    V.table ≡ slice_set W.table (index_of W id) new → Comes (whole V (index_of W id) new eof.checksum).0 id eof received
whole_comes W V id eof e new received here name table =
    let k = index_of W id in
    let right : Entry = turned new (Executing 0) new.eof true in
    let wrong : Entry = ended V.filestore new 5 in
    let again : (other : Entry) → slice_set V.table k other ≡ slice_set W.table k other =
    λ other. ap (λ (t : List Entry). slice_set t k other) table ∙ set_set_same W.table k new other in
    cond_both (is_right_checksum new eof.checksum) (turns V k new (Executing 0) new.eof true, _) (ends V k new 5, _)
    (λ (a : World × Reply). Comes a.0 id eof received)
    (λ r. Is_over (record {
      entry = right;
      here = replaces W (turns V k new (Executing 0) new.eof true) id e right here name (again right);
      phase =
          inl refl;
    }))
    (λ r. Is_over (record { entry = wrong; here = replaces W (ends V k new 5) id e wrong here name (again wrong); phase = inr refl }))

stored_comes : (W : World) (id : TransactionId) (eof : Eof) (e : Entry) (received : Received) → EntryAwaits W id e eof →
    Comes (stored e.phase (stores W (index_of W id) e received) (index_of W id) (storing W.filestore e received)).0 id eof received
stored_comes W id eof e received a =
    let k = index_of W id in
    let V = stores W k e received in
    let new : Entry = storing W.filestore e received in
    let name : Entries.name_of new ≡ id = entry_name W.table id e a.here in
    let waits : is_whole eof.size received ≡ false → Comes V id eof received =
    λ short. Goes_on new (record {
      checks = a.checks;
      here = replaces W V id e new a.here name refl;
      phase = a.phase;
      came = a.came;
      within = a.within;
      short =
          short;
    }) refl in
    let both : Comes (after_eof (Some eof) V k new).0 id eof received =
    cond_both (is_whole eof.size received) (whole V k new eof.checksum) (V, _) (λ (b : World × Reply). Comes b.0 id eof received)
    (λ w. whole_comes W V id eof e new received a.here name refl) waits in
    subst (λ (p : Phase). Comes (stored p V k new).0 id eof received) (sym a.phase)
    (subst (λ (o : Option Eof). Comes (after_eof o V k new).0 id eof received) (sym a.came) both)

-- nothing of it is kept, or nothing is there to be kept
same_comes : (W : World) (id : TransactionId) (eof : Eof) (e : Entry) (received : Received) → EntryAwaits W id e eof → e.received ≡ received →
    Comes W id eof received
same_comes W id eof e received a same = Goes_on e a same

keep_none : (rs : Received) (at : ℕ) → rs ≡ keep rs (at, [])
keep_none rs at = sym (cond_both (nat_lt 32 (pieces rs)) rs rs (λ (q : Received). q ≡ rs) (λ e. refl) (λ e. refl))

some_comes : (W : World) (id : TransactionId) (eof : Eof) (e : Entry) (at x : ℕ) (xs : List ℕ) → EntryAwaits W id e eof → at + length (x ∷ xs) ≤ eof.size →
    Comes (data_at W (index_of W id) e (record { offset = at; octets = x ∷ xs })).0 id eof (keep e.received (at, x ∷ xs))
some_comes W id eof e at x xs a within =
    let k = index_of W id in
    let received = kept_with e.received at (x ∷ xs) in
    let kept = keep e.received (at, x ∷ xs) in
    let P : World × Reply → Type 0 = λ b. Comes b.0 id eof kept in
    let end = at + length (x ∷ xs) in
    let top : limit e.phase W.config e ≡ min (bound W.config e.metadata) eof.size =
    ap (λ (p : Phase). limit p W.config e) a.phase ∙ ap (λ (o : Option Eof). min (bound W.config e.metadata) (awaited o)) a.came in
    let last = stored e.phase (stores W k e received) k (storing W.filestore e received) in
    subst P (sym (cond-false (length (x ∷ xs) == 0) (W, _) _ (ne_eqb (length (x ∷ xs)) 0 (λ z. absurd (omega (arith, z)))))) (
    subst P (sym (cond-false (nat_lt (limit e.phase W.config e) end) (ends W k e 6, _) _
    (le-ltb (limit e.phase W.config e) end (omega (arith, top, within, a.within))))) (
    elim (cases_lt 32 (pieces received)) [
      | inl many ↦
          let over = lt-ltb 32 (pieces received) many in
          subst P (sym (cond-true (nat_lt 32 (pieces received)) (W, _) last over))
          (same_comes W id eof e kept a (sym (cond-true (nat_lt 32 (pieces received)) e.received received over)))
      | inr few ↦
          let under = le-ltb 32 (pieces received) few in
          subst P (sym (cond-false (nat_lt 32 (pieces received)) (W, _) last under)) (
          subst (λ (q : Received). Comes last.0 id eof q) (sym (cond-false (nat_lt 32 (pieces received)) e.received received under))
          (stored_comes W id eof e received a)
          )
    ]
    )
    )

data_by : (W : World) (id : TransactionId) (eof : Eof) (e : Entry) (at : ℕ) (xs : List ℕ) → EntryAwaits W id e eof → at + length xs ≤ eof.size →
    Comes (data_at W (index_of W id) e (record { offset = at; octets = xs })).0 id eof (keep e.received (at, xs))
data_by W id eof e at [] a within = same_comes W id eof e (keep e.received (at, [])) a (keep_none e.received at)
data_by W id eof e at (x ∷ xs) a within = some_comes W id eof e at x xs a within

-- a piece that does not end after the file
pub comes : (W : World) (h : Header) (eof : Eof) (e : Entry) (piece : FileDataFields) → h.destination ≡ W.config.entity → EntryAwaits W (id_of h) e eof →
    piece.offset + length piece.octets ≤ eof.size → Comes (next W (DataCame h piece)).0 (id_of h) eof (keep e.received (piece.offset, piece.octets))
comes W h eof e piece ours a within =
    let k = index_of W (id_of h) in
    let id = id_of h in
    let kept = keep e.received (piece.offset, piece.octets) in
    let taken : takes_data e.phase ≡ true = ap takes_data a.phase in
    let known : Comes (data_came W k piece (Some e)).0 id eof kept =
    subst (λ (b : World × Reply). Comes b.0 id eof kept) (sym (cond-true (takes_data e.phase) (data_at W k e piece) (W, _) taken))
    (data_by W id eof e piece.offset piece.octets a within) in
    subst (λ (b : World × Reply). Comes b.0 id eof kept)
    (sym (cond-true (h.destination == W.config.entity) (data_came W k piece (entry_of W (id_of h))) (W, _) (eq-eqb h.destination W.config.entity ours)))
    (subst (λ (o : Option Entry). Comes (data_came W k piece o).0 id eof kept) (sym a.here) known)
