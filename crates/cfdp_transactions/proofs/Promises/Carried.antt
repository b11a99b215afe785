-- What an event does to the table: its own transaction's entry is carried on or goes, and every other stays as it is.
use Rattle.std.proofs.Common.{◌≡◌, ◌≢◌, ℕ, length, ◌⊎◌, refl, ap, sym, ◌∙◌, subst}
use Rattle.std.specs.Prelude.{Bool, false, IsFalse, not, ◌&&◌, ◌==◌, nat_lt, nat_le, Option, Some, None, slice_get, remove}
use Rattle.std.proofs.lemmas.Bool.{cond_both}
use Rattle.std.proofs.lemmas.Option.{same_Some}
use mathlib.Core.Logic.{inl, inr}
use Rattle.cfdp_status.specs.declared.transaction.TransactionId.{TransactionId}
use Rattle.cfdp_pdus.specs.Values.{MetadataFields}
use Rattle.cfdp_pdus.specs.declared.header.Header.{Header}
use Rattle.cfdp_verifier.specs.Verdict.{Verdict, Refuse, Grant, verdict}
use Rattle.cfdp_transactions.specs.Entry.{Receiving, Refused, Ended, is_executing, Entry, has_file, id_of, name_of}
use Rattle.cfdp_transactions.specs.Events.{Event, MetadataCame, DataCame, EofCame, Step, Cancel, Check, Take, Reply, about, is_metadata, is_take}
use Rattle.cfdp_transactions.specs.World.{World, index_of, entry_of, spare_blocks, leases_of, free_slot}
use Rattle.cfdp_transactions.specs.Admission.{new_entry, refused_entry, proposal_of, judged, is_known_checksum, metadata_came}
use Rattle.cfdp_transactions.specs.Delivery.{data_came, eof_came, checked}
use Rattle.cfdp_transactions.specs.Ending.{cancelled, taken_out}
use Rattle.cfdp_transactions.specs.Execution.{stepped}
use Rattle.cfdp_transactions.specs.Next.{for_us, next}
use Rattle.cfdp_transactions.specs.code.LowerLaws.{LowerLaws}
use Rattle.cfdp_transactions.specs.Sound.{Sound}
use Rattle.cfdp_transactions.specs.Headline.{performs, IsCarriedOn}
use Rattle.cfdp_transactions.proofs.Indexes.{before, before_other, remove_index}
use Rattle.cfdp_transactions.proofs.Finding.{found_name}
use Rattle.cfdp_transactions.proofs.Lookups.{set_other, append_other, remove_other, set_own}
use Rattle.cfdp_transactions.proofs.Soundness.OwnChange.{Moves}
use Rattle.cfdp_transactions.proofs.Soundness.EachEvent.{still, cancelled_moves, taken_table, check_moves, eof_moves, step_moves_in, data_moves}

-- transactions that are not known ------------------------------------------------------

module _ (W : World) (id : TransactionId) where
  judged_others : (h : Header) (m : MetadataFields) (v : Verdict) → id ≢ id_of h → entry_of (judged W h m v).0 id ≡ entry_of W id
  judged_others h m (Refuse r) ne = append_other W.table (refused_entry h m Refused) id (λ q. ne (sym q))
  judged_others h m (Grant items blocks steps) ne = append_other W.table (new_entry h m Receiving (free_slot W.table) items blocks steps) id (λ q. ne (sym q))

  metadata_others : (h : Header) (m : MetadataFields) → id ≢ id_of h → entry_of (metadata_came W h m None).0 id ≡ entry_of W id
  metadata_others h m ne =
      cond_both (nat_le 64 (length W.table)) _ _ (λ (a : World × Reply). entry_of a.0 id ≡ entry_of W id) (λ _. refl)
      (λ _. cond_both (nat_lt 64 (length m.requests)) _ _ (λ (a : World × Reply). entry_of a.0 id ≡ entry_of W id) (λ _. refl)
      (λ _. cond_both (has_file m && not (is_known_checksum m.checksum_type)) _ _ (λ (a : World × Reply). entry_of a.0 id ≡ entry_of W id)
      (λ _. append_other W.table (refused_entry h m (Ended 11)) id (λ q. ne (sym q)))
      (λ _. judged_others h m (verdict W.config.prefixes W.filestore (leases_of W.table) (spare_blocks W) (proposal_of W.config m)) ne)))

  for_us_others : (h : Header) (a : World × Reply) → entry_of a.0 id ≡ entry_of W id → entry_of (for_us W h a).0 id ≡ entry_of W id
  for_us_others h a same = cond_both (h.destination == W.config.entity) a _ (λ (b : World × Reply). entry_of b.0 id ≡ entry_of W id) (λ _. same) (λ _. refl)

for_us_same : (W : World) (h : Header) (a : World × Reply) → a.0 ≡ W → (for_us W h a).0 ≡ W
for_us_same W h a same = cond_both (h.destination == W.config.entity) a _ (λ (b : World × Reply). b.0 ≡ W) (λ _. same) (λ _. refl)

-- the event of a transaction that is not known does nothing, but for its Metadata, which may add an entry of its name
pub unknown_same : (W : World) (event : Event) → IsFalse (is_metadata event) → entry_of W (about event) ≡ None → (next W event).0 ≡ W
unknown_same W (MetadataCame h m) other none = absurd cc
unknown_same W (DataCame h piece) other none = for_us_same W h (data_came W (index_of W (id_of h)) piece (entry_of W (id_of h))) (rw none refl)
unknown_same W (EofCame h eof) other none = for_us_same W h (eof_came W (index_of W (id_of h)) eof (entry_of W (id_of h))) (rw none refl)
unknown_same W (Step id) other none = rw none refl
unknown_same W (Cancel id) other none = rw none refl
unknown_same W (Check id) other none = rw none refl
unknown_same W (Take id) other none = rw none refl

unknown_others : (W : World) (id : TransactionId) (event : Event) → id ≢ about event → entry_of W (about event) ≡ None →
    entry_of (next W event).0 id ≡ entry_of W id
unknown_others W id (MetadataCame h m) ne none = for_us_others W id h (metadata_came W h m (entry_of W (id_of h))) (rw none (metadata_others W id h m ne))
unknown_others W id (DataCame h piece) ne none = ap (λ (V : World). entry_of V id) (unknown_same W (DataCame h piece) refl none)
unknown_others W id (EofCame h eof) ne none = ap (λ (V : World). entry_of V id) (unknown_same W (EofCame h eof) refl none)
unknown_others W id (Step other) ne none = ap (λ (V : World). entry_of V id) (unknown_same W (Step other) refl none)
unknown_others W id (Cancel other) ne none = ap (λ (V : World). entry_of V id) (unknown_same W (Cancel other) refl none)
unknown_others W id (Check other) ne none = ap (λ (V : World). entry_of V id) (unknown_same W (Check other) refl none)
unknown_others W id (Take other) ne none = ap (λ (V : World). entry_of V id) (unknown_same W (Take other) refl none)

-- transactions in the table --------------------------------------------------------------

module _ (laws : LowerLaws) (W : World) (s : Sound W) where
  for_us_moves : (k : ℕ) (e : Entry) → slice_get W.table k ≡ Some e → (h : Header) (a : World × Reply) → Moves false k e W a.0 →
      Moves false k e W (for_us W h a).0
  for_us_moves k e at h a moves = cond_both (h.destination == W.config.entity) a _ (λ (b : World × Reply). Moves false k e W b.0) (λ _. moves)
      (λ _. still false k e W s at)

  -- it moves on, or is taken out
  abbrev Fate : Bool → ℕ → Entry → World → Type 0
  Fate performing k e V = Moves performing k e W V ⊎ (V ≡ record W { table = remove W.table k })

  at_found : (performing : Bool) (k : ℕ) (e : Entry) (f : Option Entry → World × Reply) → slice_get W.table k ≡ Some e → Moves performing k e W (f (Some e)).0 →
      Moves performing k e W (f (slice_get W.table k)).0
  at_found performing k e f at moves = subst (λ (o : Option Entry). Moves performing k e W (f o).0) (sym at) moves

  taken_fate : (k : ℕ) (e : Entry) → slice_get W.table k ≡ Some e → Fate false k e (taken_out W k (Some e)).0
  taken_fate k e at = elim (taken_table laws W k e s at) [
    | inl stays ↦ inl (subst (λ (V : World). Moves false k e W V) (sym stays) (still false k e W s at))
    | inr gone ↦ inr gone
  ]

  -- every event but a request for the outcome carries it on
  pub moves_on : (event : Event) (e : Entry) → IsFalse (is_take event) → entry_of W (about event) ≡ Some e →
      Moves (performs event e.phase) (index_of W (about event)) e W (next W event).0
  moves_on (MetadataCame h m) e other found =
      let k = index_of W (id_of h) in
      for_us_moves k e found h (metadata_came W h m (entry_of W (id_of h))) (at_found false k e (λ o. metadata_came W h m o) found (still false k e W s found))
  moves_on (DataCame h piece) e other found =
      let k = index_of W (id_of h) in
      for_us_moves k e found h (data_came W k piece (entry_of W (id_of h)))
      (at_found false k e (λ o. data_came W k piece o) found (data_moves laws W k e s found piece))
  moves_on (EofCame h eof) e other found =
      let k = index_of W (id_of h) in
      for_us_moves k e found h (eof_came W k eof (entry_of W (id_of h))) (at_found false k e (λ o. eof_came W k eof o) found (eof_moves laws W k e s found eof))
  moves_on (Step id) e other found =
      let k = index_of W id in
      at_found (is_executing e.phase) k e (λ o. stepped W k o) found (step_moves_in laws W k e s found e.phase refl)
  moves_on (Cancel id) e other found = let k = index_of W id in at_found false k e (λ o. cancelled W k o) found (cancelled_moves laws W k e s found)
  moves_on (Check id) e other found = let k = index_of W id in at_found false k e (λ o. checked W k o) found (check_moves laws W k e s found e.phase refl)
  moves_on (Take id) e other found = absurd cc

  fate : (event : Event) (e : Entry) → entry_of W (about event) ≡ Some e → Fate (performs event e.phase) (index_of W (about event)) e (next W event).0
  fate (MetadataCame h m) e found = inl (moves_on (MetadataCame h m) e refl found)
  fate (DataCame h piece) e found = inl (moves_on (DataCame h piece) e refl found)
  fate (EofCame h eof) e found = inl (moves_on (EofCame h eof) e refl found)
  fate (Step id) e found = inl (moves_on (Step id) e refl found)
  fate (Cancel id) e found = inl (moves_on (Cancel id) e refl found)
  fate (Check id) e found = inl (moves_on (Check id) e refl found)
  fate (Take id) e found = let k = index_of W id in subst (λ (o : Option Entry). Fate false k e (taken_out W k o).0) (sym found) (taken_fate k e found)

  -- once it is taken out its name is free
  pub gone_unknown : (id : TransactionId) (e now : Entry) → entry_of W id ≡ Some e →
      slice_get (remove W.table (index_of W id)) (index_of (record W { table = remove W.table (index_of W id) }) id) ≡ Some now → ⊥
  gone_unknown id e now found after =
      let k = index_of W id in
      let i = index_of (record W { table = remove W.table k }) id in
      s.names (before k i) k now e (sym (remove_index W.table k i) ∙ after) found (before_other k i)
      (found_name (remove W.table k) id now after ∙ sym (found_name W.table id e found))

  moved_name : (event : Event) (e new : Entry) → entry_of W (about event) ≡ Some e → new.header ≡ e.header → name_of new ≡ about event
  moved_name event e new found same = ap id_of same ∙ found_name W.table (about event) e found

  pub moved_here : (event : Event) (e : Entry) → entry_of W (about event) ≡ Some e →
      (p : Moves (performs event e.phase) (index_of W (about event)) e W (next W event).0) → entry_of (next W event).0 (about event) ≡ Some p.0
  moved_here event e found p = rw p.1.table (set_own W.table (about event) e p.0 (moved_name event e p.0 found p.1.carried.header) found)

  pub next_carried : (event : Event) (e now : Entry) → entry_of W (about event) ≡ Some e → entry_of (next W event).0 (about event) ≡ Some now →
      IsCarriedOn (performs event e.phase) W.filestore (next W event).0.filestore e now
  next_carried event e now found after = elim (fate event e found) [
    | inl p ↦
        subst (λ (d : Entry). IsCarriedOn (performs event e.phase) W.filestore (next W event).0.filestore e d)
        (same_Some p.0 now (sym (moved_here event e found p) ∙ after)) p.1.carried
    | inr gone ↦ absurd (gone_unknown (about event) e now found (rw gone at after))
  ]

  others_found : (event : Event) (id : TransactionId) → id ≢ about event → (o : Option Entry) → entry_of W (about event) ≡ o → entry_of (next W event).0 id
      ≡ entry_of W id
  others_found event id ne None none = unknown_others W id event ne none
  others_found event id ne (Some e) found =
      let k = index_of W (about event) in
      let old : (d : Entry) → slice_get W.table k ≡ Some d → name_of d ≢ id = λ d at q. ne (sym q ∙ found_name W.table (about event) d at) in
      elim (fate event e found) [
        | inl p ↦ rw p.1.table (set_other W.table k p.0 id (λ q. ne (sym q ∙ moved_name event e p.0 found p.1.carried.header)) old)
        | inr gone ↦ rw gone (remove_other W.table k id old)
      ]

  pub next_others : (event : Event) (id : TransactionId) → id ≢ about event → entry_of (next W event).0 id ≡ entry_of W id
  next_others event id ne = others_found event id ne (entry_of W (about event)) refl
