-- Only a Metadata PDU has a reply that admits, and the new entry has what it grants.
use Rattle.std.proofs.Common.{◌≡◌, ℕ, ◌+◌, List, [], ◌∷◌, length, refl, drop}
use Rattle.std.specs.Prelude.{Option, Some, None, not, ◌&&◌, ◌||◌, ◌==◌, nat_lt, nat_le}
use Rattle.std.proofs.lemmas.Bool.{cond_both}
use Rattle.cfdp_actions.specs.Actions.{Item, Answer, succeeded}
use Rattle.cfdp_pdus.specs.Values.{MetadataFields, FileDataFields}
use Rattle.cfdp_pdus.specs.declared.header.Header.{Header}
use Rattle.cfdp_pdus.specs.declared.eof.Eof.{Eof}
use Rattle.cfdp_verifier.specs.Verdict.{Verdict, Refuse, Grant, Good, parsed, verdict}
use Rattle.cfdp_transactions.specs.Received.{kept_with, pieces, is_whole}
use Rattle.cfdp_transactions.specs.Entry.{Phase, Receiving, Awaiting, Executing, Refused, Done, Ended, is_live, is_receiving, takes_data, Entry, id_of, has_file}
use Rattle.cfdp_transactions.specs.Events.{Event, MetadataCame, DataCame, EofCame, Step, Cancel, Check, Take, Reply}
use Rattle.cfdp_transactions.specs.World.{World, index_of, entry_of, spare_blocks, leases_of, free_slot, bound}
use Rattle.cfdp_transactions.specs.Admission.{new_entry, with_new, proposal_of, judged, is_known_checksum, metadata_came}
use Rattle.cfdp_transactions.specs.Delivery.{is_right_checksum, whole, storing, stores, limit, after_eof, stored, data_came, eof_without_error, eof_came, check_at, checked}
use Rattle.cfdp_transactions.specs.Ending.{cancelled, taken_out}
use Rattle.cfdp_transactions.specs.Execution.{act_now, replied, step_at, step_in, stepped}
use Rattle.cfdp_transactions.specs.Next.{for_us, next}
use Rattle.cfdp_transactions.specs.Headline.{IsAdmitted}
use Rattle.cfdp_transactions.proofs.Lookups.{append_own}
use Rattle.cfdp_transactions.proofs.Soundness.Parsing.{granted_parsed}

-- the events that admit nothing ----------------------------------------------------------

abbrev AdmitsNone : World × Reply → Type 0
AdmitsNone a = (granted steps : ℕ) → a.1 ≡ Reply.Admitted granted steps → ⊥

whole_none : (W : World) (k : ℕ) (e : Entry) (sum : ℕ) → AdmitsNone (whole W k e sum)
whole_none W k e sum = cond_both (is_right_checksum e sum) _ _ AdmitsNone (λ _ g t q. cc) (λ _ g t q. cc)

after_eof_none : (eof : Option Eof) (W : World) (k : ℕ) (e : Entry) → AdmitsNone (after_eof eof W k e)
after_eof_none None W k e = λ g t q. cc
after_eof_none (Some eof) W k e = cond_both (is_whole eof.size e.received) _ _ AdmitsNone (λ _. whole_none W k e eof.checksum) (λ _ g t q. cc)

stored_none : (phase : Phase) (W : World) (k : ℕ) (e : Entry) → AdmitsNone (stored phase W k e)
stored_none (Awaiting checks) W k e = after_eof_none e.eof W k e
stored_none Receiving W k e = λ g t q. cc
stored_none (Executing next) W k e = λ g t q. cc
stored_none Refused W k e = λ g t q. cc
stored_none Done W k e = λ g t q. cc
stored_none (Ended condition) W k e = λ g t q. cc

data_none : (W : World) (k : ℕ) (piece : FileDataFields) (o : Option Entry) → AdmitsNone (data_came W k piece o)
data_none W k piece None = λ g t q. cc
data_none W k piece (Some e) =
    let received = kept_with e.received piece.offset piece.octets in
    cond_both (takes_data e.phase) _ _ AdmitsNone
    (λ _. cond_both (length piece.octets == 0) _ _ AdmitsNone (λ _ g t q. cc)
    (λ _. cond_both (nat_lt (limit e.phase W.config e) (piece.offset + length piece.octets)) _ _ AdmitsNone (λ _ g t q. cc)
    (λ _. cond_both (nat_lt 32 (pieces received)) _ _ AdmitsNone (λ _ g t q. cc)
    (λ _. stored_none e.phase (stores W k e received) k (storing W.filestore e received)))))
    (λ _ g t q. cc)

eof_at_none : (W : World) (k : ℕ) (e : Entry) (eof : Eof) → AdmitsNone (eof_without_error W k e eof)
eof_at_none W k e eof =
    cond_both (length e.items == 0) _ _ AdmitsNone (λ _ g t q. cc)
    (λ _. cond_both (not (has_file e.metadata)) _ _ AdmitsNone (λ _ g t q. cc)
    (λ _. cond_both (nat_lt (bound W.config e.metadata) eof.size || nat_lt eof.size (length e.received)) _ _ AdmitsNone (λ _ g t q. cc)
    (λ _. cond_both (not (is_whole eof.size e.received)) _ _ AdmitsNone (λ _ g t q. cc) (λ _. whole_none W k e eof.checksum))))

eof_none : (W : World) (k : ℕ) (eof : Eof) (o : Option Entry) → AdmitsNone (eof_came W k eof o)
eof_none W k eof None = λ g t q. cc
eof_none W k eof (Some e) =
    cond_both (not (is_live e.phase)) _ _ AdmitsNone (λ _ g t q. cc)
    (λ _. cond_both (not (eof.condition == 0)) _ _ AdmitsNone (λ _ g t q. cc)
    (λ _. cond_both (not (is_receiving e.phase)) _ _ AdmitsNone (λ _ g t q. cc) (λ _. eof_at_none W k e eof)))

check_none : (W : World) (k : ℕ) (e : Entry) (phase : Phase) → AdmitsNone (check_at phase W k e)
check_none W k e (Awaiting checks) = cond_both (nat_le W.config.checks (checks + 1)) _ _ AdmitsNone (λ _ g t q. cc) (λ _ g t q. cc)
check_none W k e Receiving = λ g t q. cc
check_none W k e (Executing next) = λ g t q. cc
check_none W k e Refused = λ g t q. cc
check_none W k e Done = λ g t q. cc
check_none W k e (Ended condition) = λ g t q. cc

checked_none : (W : World) (k : ℕ) (o : Option Entry) → AdmitsNone (checked W k o)
checked_none W k None = λ g t q. cc
checked_none W k (Some e) = check_none W k e e.phase

replied_none : (answer : Answer) (granted steps : ℕ) → replied answer ≡ Reply.Admitted granted steps → ⊥
replied_none (Answer.Performed status) = λ g t q. cc
replied_none Answer.Installed = λ g t q. cc
replied_none Answer.NotInstalled = λ g t q. cc

step_at_none : (W : World) (k : ℕ) (e : Entry) (n : ℕ) (items : List Item) → AdmitsNone (step_at W k e n items)
step_at_none W k e n [] = λ g t q. cc
step_at_none W k e n (item ∷ items) =
    let answer = (act_now W e item).answer in
    cond_both (succeeded answer) _ _ AdmitsNone (λ _. replied_none answer) (λ _. replied_none answer)

step_none : (W : World) (k : ℕ) (e : Entry) (phase : Phase) → AdmitsNone (step_in phase W k e)
step_none W k e (Executing n) = step_at_none W k e n (drop n e.items)
step_none W k e Receiving = λ g t q. cc
step_none W k e (Awaiting checks) = λ g t q. cc
step_none W k e Refused = λ g t q. cc
step_none W k e Done = λ g t q. cc
step_none W k e (Ended condition) = λ g t q. cc

stepped_none : (W : World) (k : ℕ) (o : Option Entry) → AdmitsNone (stepped W k o)
stepped_none W k None = λ g t q. cc
stepped_none W k (Some e) = step_none W k e e.phase

cancelled_none : (W : World) (k : ℕ) (o : Option Entry) → AdmitsNone (cancelled W k o)
cancelled_none W k None = λ g t q. cc
cancelled_none W k (Some e) = cond_both (is_live e.phase) _ _ AdmitsNone (λ _ g t q. cc) (λ _ g t q. cc)

taken_none : (W : World) (k : ℕ) (o : Option Entry) → AdmitsNone (taken_out W k o)
taken_none W k None = λ g t q. cc
taken_none W k (Some e) = cond_both (is_live e.phase) _ _ AdmitsNone (λ _ g t q. cc) (λ _ g t q. cc)

for_us_none : (W : World) (h : Header) (a : World × Reply) → AdmitsNone a → AdmitsNone (for_us W h a)
for_us_none W h a none = cond_both (h.destination == W.config.entity) a _ AdmitsNone (λ _. none) (λ _ g t q. cc)

-- the Metadata ---------------------------------------------------------------------------

module _ (W : World) (h : Header) (m : MetadataFields) (granted steps : ℕ) where
  -- where it is admitted
  abbrev Admits : World × Reply → Type 0
  Admits a = a.1 ≡ Reply.Admitted granted steps → IsAdmitted W a.0 (MetadataCame h m) granted steps

  new_admitted : (items : List Item) → entry_of W (id_of h) ≡ None → parsed (proposal_of W.config m) ≡ Good items →
      IsAdmitted W (with_new W (new_entry h m Receiving (free_slot W.table) items granted steps)) (MetadataCame h m) granted steps
  new_admitted items absent good = record {
    entry = new_entry h m Receiving (free_slot W.table) items granted steps;
    here = append_own W.table (id_of h) (new_entry h m Receiving (free_slot W.table) items granted steps) refl absent;
    came = refl;
    items = good;
    phase = refl;
    blocks = refl;
    steps = refl;
    blocks_spent = refl;
    steps_spent = refl;
    statuses = refl;
    filestore = refl;
  }

  judged_admits : (v : Verdict) → entry_of W (id_of h) ≡ None → verdict W.config.prefixes W.filestore (leases_of W.table) (spare_blocks W)
      (proposal_of W.config m)
      ≡ v → Admits (judged W h m v)
  judged_admits (Refuse r) absent is q = absurd cc
  judged_admits (Grant items blocks bound_steps) absent is q =
      let same_blocks : blocks ≡ granted = cc in
      let same_steps : bound_steps ≡ steps = cc in
      rw (same_blocks, same_steps) (new_admitted items absent (granted_parsed W.config.prefixes W.filestore (leases_of W.table) (spare_blocks W)
      (proposal_of W.config m) items blocks bound_steps is))

  metadata_admits : (o : Option Entry) → entry_of W (id_of h) ≡ o → Admits (metadata_came W h m o)
  metadata_admits (Some e) found = λ q. absurd cc
  metadata_admits None absent =
      cond_both (nat_le 64 (length W.table)) _ _ Admits (λ _ q. absurd cc)
      (λ _. cond_both (nat_lt 64 (length m.requests)) _ _ Admits (λ _ q. absurd cc)
      (λ _. cond_both (has_file m && not (is_known_checksum m.checksum_type)) _ _ Admits (λ _ q. absurd cc)
      (λ _. judged_admits (verdict W.config.prefixes W.filestore (leases_of W.table) (spare_blocks W) (proposal_of W.config m)) absent refl)))

  came_admits : Admits (for_us W h (metadata_came W h m (entry_of W (id_of h))))
  came_admits = cond_both (h.destination == W.config.entity) _ _ Admits (λ _. metadata_admits (entry_of W (id_of h)) refl) (λ _ q. absurd cc)

pub next_admitted : (W : World) (event : Event) (granted steps : ℕ) → (next W event).1 ≡ Reply.Admitted granted steps →
    IsAdmitted W (next W event).0 event granted steps
next_admitted W (MetadataCame h m) granted steps q = came_admits W h m granted steps q
next_admitted W (DataCame h piece) granted steps q = absurd (for_us_none W h _
    (data_none W (index_of W (id_of h)) piece (entry_of W (id_of h))) granted steps q)
next_admitted W (EofCame h eof) granted steps q = absurd (for_us_none W h _ (eof_none W (index_of W (id_of h)) eof (entry_of W (id_of h))) granted steps q)
next_admitted W (Step id) granted steps q = absurd (stepped_none W (index_of W id) (entry_of W id) granted steps q)
next_admitted W (Cancel id) granted steps q = absurd (cancelled_none W (index_of W id) (entry_of W id) granted steps q)
next_admitted W (Check id) granted steps q = absurd (checked_none W (index_of W id) (entry_of W id) granted steps q)
next_admitted W (Take id) granted steps q = absurd (taken_none W (index_of W id) (entry_of W id) granted steps q)
