-- Outcomes fit a Finished PDU, where the events that came fit theirs.
use Rattle.std.proofs.Common.{◌≡◌, ℕ, suc, ◌+◌, ◌^◌, ◌≤◌, ◌<◌, List, [], ◌∷◌, length, refl, sym, ◌∙◌, arith}
use Rattle.std.specs.Prelude.{Option, Some, None, IfSome, slice_get, true, not, ◌&&◌, ◌||◌, ◌==◌, nat_lt, nat_le, drop}
use Rattle.std.specs.List.{AllByRecursion}
use Rattle.std.proofs.lemmas.Bool.{cond_both, ltb-false}
use Rattle.cfdp_actions.specs.Filestore.{empty_filestore, Change, Stages}
use Rattle.cfdp_actions.specs.Actions.{Item, Answer, succeeded}
use Rattle.cfdp_pdus.specs.Values.{MetadataFields, FileDataFields}
use Rattle.cfdp_pdus.specs.declared.header.Header.{Header}
use Rattle.cfdp_pdus.specs.declared.eof.Eof.{Eof}
use Rattle.cfdp_pdus.specs.Canonical.{IsHeader}
use Rattle.cfdp_transactions.specs.Received.{kept_with, pieces, is_whole, Received, staged_of}
use Rattle.cfdp_verifier.specs.declared.refusal.Refusal.TheVariants.{TooManyRequests}
use Rattle.cfdp_verifier.specs.Verdict.{Verdict, Refuse, Grant, verdict}
use Rattle.cfdp_transactions.specs.Entry.{Phase, Receiving, Awaiting, Executing, Refused, Done, Ended, is_live, is_receiving, takes_data, Entry, has_file, id_of}
use Rattle.cfdp_transactions.specs.Events.{Event, MetadataCame, DataCame, EofCame, Step, Cancel, Check, Take, Reply}
use Rattle.cfdp_transactions.specs.Outcome.{condition_of, is_refused, file_status_of, fault_location_of, finished, outcome_of}
use Rattle.cfdp_transactions.specs.World.{World, spare_blocks, leases_of, bound, index_of, entry_of, change_at, free_slot}
use Rattle.cfdp_transactions.specs.Ending.{ended, ends, cancelled, taken_out}
use Rattle.cfdp_transactions.specs.Delivery.{is_right_checksum, whole, limit, storing, stores, after_eof, stored, data_came, eof_came, check_at, checked}
use Rattle.cfdp_transactions.specs.Execution.{act_now, replied, phase_before, entry_after, entry_failed, step_at, step_in, stepped}
use Rattle.cfdp_transactions.specs.Admission.{proposal_of, judged, is_known_checksum, metadata_came, new_entry, refused_entry, with_new}
use Rattle.cfdp_transactions.specs.Next.{for_us, next, replies}
use Rattle.cfdp_transactions.specs.Sound.{Each}
use Rattle.cfdp_transactions.specs.Writable.{IsWritable, FitsReply, IsShort, IsReadable, OutcomesFit}
use Rattle.cfdp_transactions.specs.Beginning.{start_with, OutcomesFitFrom}
use Rattle.cfdp_transactions.proofs.FinishedPdus.Lengths.{fields_fit, octets_fit}
use Rattle.cfdp_transactions.proofs.Indexes.{set_each, append_each, remove_index, before, get_set_same}

-- what an entry keeps for its outcome
pub record IsSendable (e : Entry) : Type 0 where
  pub header : IsHeader e.header
  pub requests : AllByRecursion IsShort e.metadata.requests
  pub few : length e.metadata.requests ≤ 64
  pub condition : condition_of e.phase < 16

sendable_in : (e : Entry) (phase : Phase) (new : Entry) → IsSendable e → new.header ≡ e.header → new.metadata ≡ e.metadata → new.phase ≡ phase →
    condition_of phase < 16 → IsSendable new
sendable_in e phase new s header metadata is small = record {
  header = rw header s.header;
  requests = rw metadata s.requests;
  few = rw metadata s.few;
  condition = rw is small;
}

-- the outcome -------------------------------------------------------------------------

file_status_small : (e : Entry) → file_status_of e < 4
file_status_small e =
    cond_both (not (has_file e.metadata)) _ _ (λ (n : ℕ). n < 4) (λ _. omega arith)
    (λ _. cond_both e.installed _ _ (λ (n : ℕ). n < 4) (λ _. omega arith)
    (λ _. cond_both (is_refused e.phase) _ _ (λ (n : ℕ). n < 4) (λ _. omega arith) (λ _. omega arith)))

fault_fits : (e : Entry) → IsHeader e.header → IfSome (fault_location_of e) (λ entity. entity < 256 ^ e.header.id_len)
fault_fits e h =
    cond_both ((condition_of e.phase == 0) || (condition_of e.phase == 11)) _ _ (λ (o : Option ℕ). IfSome o (λ entity. entity < 256 ^ e.header.id_len))
    (λ _. tt)
    (λ _. cond_both e.ended_by_eof _ _ (λ (o : Option ℕ). IfSome o (λ entity. entity < 256 ^ e.header.id_len)) (λ _. h.source) (λ _. h.destination))

pub outcome_fits : (e : Entry) → IsSendable e → IsWritable (outcome_of e)
outcome_fits e s = record {
  header = record {
    id_low = s.header.id_low;
    id_high = s.header.id_high;
    number_low = s.header.number_low;
    number_high = s.header.number_high;
    source = s.header.source;
    number = s.header.number;
    destination = s.header.destination;
  };
  sized = record { condition = s.condition; file_status = file_status_small e; fault = fault_fits e s.header };
  fits = fields_fit (outcome_of e).header (finished e) e.metadata.requests e.statuses refl s.header.id_high s.few s.requests;
  most = octets_fit (outcome_of e).header (finished e) e.metadata.requests e.statuses refl s.header.id_high s.few s.requests s.header.number_high;
}

-- the events --------------------------------------------------------------------------

pub record AnswerFits (a : World × Reply) : Type 0 where
  pub table : Each IsSendable a.0.table
  pub reply : FitsReply a.1

module _ (W : World) (all : Each IsSendable W.table) where
  stays_fit : (reply : Reply) → FitsReply reply → AnswerFits (W, reply)
  stays_fit reply fits = record { table = all; reply = fits }

  module _ (k : ℕ) (e : Entry) (at : slice_get W.table k ≡ Some e) where
    changed_fits : (changes : List Change) (new : Entry) → IsSendable new → Each IsSendable (change_at W k changes new).table
    changed_fits changes new s = set_each (λ _ (d : Entry). IsSendable d) W.table k new s (λ j d here ne. all j d here)

    -- to a phase with a small condition
    goes_to : (changes : List Change) (new : Entry) (phase : Phase) (reply : Reply) → new.header ≡ e.header → new.metadata ≡ e.metadata → new.phase ≡ phase →
        condition_of phase < 16 → FitsReply reply →
        AnswerFits (change_at W k changes new, reply)
    goes_to changes new phase reply header metadata is small fits = record
        { table = changed_fits changes new (sendable_in e phase new (all k e at) header metadata is small); reply = fits }

    ends_fit : (now : Entry) (condition : ℕ) (reply : Reply) → now.header ≡ e.header → now.metadata ≡ e.metadata → condition < 16 → FitsReply reply →
        AnswerFits (ends W k now condition, reply)
    ends_fit now condition reply header metadata small fits = goes_to (Stages now.slot [] ∷ []) (ended W.filestore now condition)
        (Ended condition) reply header metadata refl small fits

    cancelled_fits : AnswerFits (cancelled W k (Some e))
    cancelled_fits = cond_both (is_live e.phase) _ _ AnswerFits (λ _. ends_fit e 15 Reply.Cancelled refl refl (omega arith) tt) (λ _. stays_fit Reply.Idle tt)

    taken_fits : AnswerFits (taken_out W k (Some e))
    taken_fits = cond_both (is_live e.phase) _ _ AnswerFits (λ _. stays_fit Reply.Idle tt)
        (λ _. record { table = λ j d here. all (before k j) d (sym (remove_index W.table k j) ∙ here); reply = outcome_fits e (all k e at) })

    check_fits : (phase : Phase) → AnswerFits (check_at phase W k e)
    check_fits (Awaiting checks) = cond_both (nat_le W.config.checks (checks + 1)) _ _ AnswerFits
        (λ _. ends_fit e 10 (Reply.Faulted 10) refl refl (omega arith) tt) (λ _.
        goes_to [] _ (Awaiting (checks + 1)) Reply.Waiting refl refl refl (omega arith) tt)
    check_fits Receiving = stays_fit Reply.Idle tt
    check_fits (Executing next) = stays_fit Reply.Idle tt
    check_fits Refused = stays_fit Reply.Idle tt
    check_fits Done = stays_fit Reply.Idle tt
    check_fits (Ended condition) = stays_fit Reply.Idle tt

    whole_fits : (sum : ℕ) → AnswerFits (whole W k e sum)
    whole_fits sum = cond_both (is_right_checksum e sum) _ _ AnswerFits
        (λ _. goes_to [] _ (Executing 0) Reply.Complete refl refl refl (omega arith) tt) (λ _. ends_fit e 5 (Reply.Faulted 5) refl refl (omega arith) tt)

    eof_fits : (eof : Eof) → eof.condition < 16 → AnswerFits (eof_came W k eof (Some e))
    eof_fits eof small =
        cond_both (not (is_live e.phase)) _ _ AnswerFits (λ _. stays_fit Reply.Idle tt)
        (λ _. cond_both (not (eof.condition == 0)) _ _ AnswerFits
        (λ _. ends_fit (record e { ended_by_eof = true }) eof.condition (Reply.Faulted eof.condition) refl refl small tt)
        (λ _. cond_both (not (is_receiving e.phase)) _ _ AnswerFits (λ _. stays_fit Reply.Duplicate tt)
        (λ _. cond_both (length e.items == 0) _ _ AnswerFits (λ _. goes_to [] _ Done Reply.Done refl refl refl (omega arith) tt)
        (λ _. cond_both (not (has_file e.metadata)) _ _ AnswerFits (λ _. goes_to [] _ (Executing 0) Reply.Complete refl refl refl (omega arith) tt)
        (λ _. cond_both (nat_lt (bound W.config e.metadata) eof.size || nat_lt eof.size (length e.received)) _ _ AnswerFits
        (λ _. ends_fit e 6 (Reply.Faulted 6) refl refl (omega arith) tt)
        (λ _. cond_both (not (is_whole eof.size e.received)) _ _ AnswerFits (λ _. goes_to [] _ (Awaiting 0) Reply.Waiting refl refl refl (omega arith) tt)
        (λ _. whole_fits eof.checksum)))))))

    small_before : (n : ℕ) (items : List Item) → condition_of (phase_before n items) < 16
    small_before n [] = omega arith
    small_before n (item ∷ items) = omega arith

    replied_fits : (answer : Answer) → FitsReply (replied answer)
    replied_fits (Answer.Performed status) = tt
    replied_fits Answer.Installed = tt
    replied_fits Answer.NotInstalled = tt

    step_items_fit : (n : ℕ) (items : List Item) → AnswerFits (step_at W k e n items)
    step_items_fit n [] = stays_fit Reply.Idle tt
    step_items_fit n (item ∷ items) =
        let o = act_now W e item in
        cond_both (succeeded o.answer) _ _ AnswerFits
        (λ _. goes_to o.changes (entry_after e n item items o) (phase_before (suc n) items) (replied o.answer) refl refl refl (small_before (suc n) items)
        (replied_fits o.answer))
        (λ _. ends_fit (entry_failed e o) 4 (replied o.answer) refl refl (omega arith) (replied_fits o.answer))

    step_fits : (phase : Phase) → AnswerFits (step_in phase W k e)
    step_fits (Executing n) = step_items_fit n (drop n e.items)
    step_fits Receiving = stays_fit Reply.Idle tt
    step_fits (Awaiting checks) = stays_fit Reply.Idle tt
    step_fits Refused = stays_fit Reply.Idle tt
    step_fits Done = stays_fit Reply.Idle tt
    step_fits (Ended condition) = stays_fit Reply.Idle tt

module _ (W : World) (all : Each IsSendable W.table) (k : ℕ) (e : Entry) (at : slice_get W.table k ≡ Some e) (piece : FileDataFields) where
  abbrev received : Received
  received = kept_with e.received piece.offset piece.octets

  abbrev new : Entry
  new = storing W.filestore e received

  abbrev V : World
  V = stores W k e received

  new_sendable : IsSendable new
  new_sendable = let s = all k e at in record { header = s.header; requests = s.requests; few = s.few; condition = s.condition }

  all_now : Each IsSendable V.table
  all_now = changed_fits W all k e at (Stages e.slot (staged_of received) ∷ []) new new_sendable

  there : slice_get V.table k ≡ Some new
  there = get_set_same W.table k new e at

  after_eof_fits : (eof : Option Eof) → AnswerFits (after_eof eof V k new)
  after_eof_fits None = stays_fit V all_now Reply.Stored tt
  after_eof_fits (Some eof) = cond_both (is_whole eof.size new.received) _ _ AnswerFits (λ _. whole_fits V all_now k new there eof.checksum)
      (λ _. stays_fit V all_now Reply.Stored tt)

  stored_fits : (phase : Phase) → AnswerFits (stored phase V k new)
  stored_fits (Awaiting checks) = after_eof_fits e.eof
  stored_fits Receiving = stays_fit V all_now Reply.Stored tt
  stored_fits (Executing n) = stays_fit V all_now Reply.Stored tt
  stored_fits Refused = stays_fit V all_now Reply.Stored tt
  stored_fits Done = stays_fit V all_now Reply.Stored tt
  stored_fits (Ended condition) = stays_fit V all_now Reply.Stored tt

  data_fits : AnswerFits (data_came W k piece (Some e))
  data_fits =
      cond_both (takes_data e.phase) _ _ AnswerFits
      (λ _. cond_both (length piece.octets == 0) _ _ AnswerFits (λ _. stays_fit W all Reply.Stored tt)
      (λ _. cond_both (nat_lt (limit e.phase W.config e) (piece.offset + length piece.octets)) _ _ AnswerFits
      (λ _. ends_fit W all k e at e 6 (Reply.Faulted 6) refl refl (omega arith) tt)
      (λ _. cond_both (nat_lt 32 (pieces received)) _ _ AnswerFits (λ _. stays_fit W all Reply.Dropped tt) (λ _. stored_fits e.phase))))
      (λ _. stays_fit W all Reply.Idle tt)

module _ (W : World) (all : Each IsSendable W.table) where
  added_fits : (new : Entry) (reply : Reply) → IsSendable new → FitsReply reply → AnswerFits (with_new W new, reply)
  added_fits new reply s fits = record { table = append_each (λ _ (d : Entry). IsSendable d) W.table new s (λ j d here. all j d here); reply = fits }

  metadata_fits : (h : Header) (m : MetadataFields) → IsHeader h → AllByRecursion IsShort m.requests → (o : Option Entry) → AnswerFits (metadata_came W h m o)
  metadata_fits h m header requests (Some e) = stays_fit W all Reply.Duplicate tt
  metadata_fits h m header requests None =
      cond_both (nat_le 64 (length W.table)) _ _ AnswerFits (λ _. stays_fit W all Reply.TableFull tt)
      (λ _. cond_both (nat_lt 64 (length m.requests)) _ _ AnswerFits (λ _. stays_fit W all (Reply.Refused TooManyRequests) tt)
      (λ few. cond_both (has_file m && not (is_known_checksum m.checksum_type)) _ _ AnswerFits
      (λ _. added_fits (refused_entry h m (Ended 11)) (Reply.Faulted 11) (record {
        header = header;
        requests = requests;
        few = ltb-false _ _ few;
        condition = omega arith;
      }) tt)
      (λ _. judged_fits (ltb-false _ _ few) (verdict W.config.prefixes W.filestore (leases_of W.table) (spare_blocks W) (proposal_of W.config m)))))
    where
      judged_fits : length m.requests ≤ 64 → (v : Verdict) → AnswerFits (judged W h m v)
      judged_fits few (Refuse r) = added_fits (refused_entry h m Refused) (Reply.Refused r)
          (record { header = header; requests = requests; few = few; condition = omega arith }) tt
      judged_fits few (Grant items blocks steps) =
          added_fits (new_entry h m Receiving (free_slot W.table) items blocks steps) (Reply.Admitted blocks steps)
          (record { header = header; requests = requests; few = few; condition = omega arith }) tt

  found_fits : (f : Option Entry → World × Reply) (k : ℕ) → AnswerFits (f None) → ((e : Entry) → slice_get W.table k ≡ Some e → AnswerFits (f (Some e))) →
      (o : Option Entry) → slice_get W.table k ≡ o → AnswerFits (f o)
  found_fits f k unknown known None at = unknown
  found_fits f k unknown known (Some e) at = known e at

  for_us_fits : (h : Header) (a : World × Reply) → AnswerFits a → AnswerFits (for_us W h a)
  for_us_fits h a fits = cond_both (h.destination == W.config.entity) a _ AnswerFits (λ _. fits) (λ _. stays_fit W all Reply.NotForUs tt)

  pub next_fits : (event : Event) → IsReadable event → AnswerFits (next W event)
  next_fits (MetadataCame h m) fits = for_us_fits h _ (metadata_fits h m fits.0 fits.1 (entry_of W (id_of h)))
  next_fits (DataCame h piece) fits =
      let k = index_of W (id_of h) in
      for_us_fits h (data_came W k piece (entry_of W (id_of h))) (found_fits (λ o. data_came W k piece o) k (stays_fit W all Reply.Unknown tt)
      (λ e at. data_fits W all k e at piece) (entry_of W (id_of h)) refl)
  next_fits (EofCame h eof) fits =
      let k = index_of W (id_of h) in
      for_us_fits h (eof_came W k eof (entry_of W (id_of h))) (found_fits (λ o. eof_came W k eof o) k (stays_fit W all Reply.Unknown tt)
      (λ e at. eof_fits W all k e at eof fits.1) (entry_of W (id_of h)) refl)
  next_fits (Step id) fits = let k = index_of W id in found_fits (λ o. stepped W k o) k (stays_fit W all Reply.Unknown tt)
      (λ e at. step_fits W all k e at e.phase) (entry_of W id) refl
  next_fits (Cancel id) fits = let k = index_of W id in found_fits (λ o. cancelled W k o) k (stays_fit W all Reply.Unknown tt)
      (λ e at. cancelled_fits W all k e at) (entry_of W id) refl
  next_fits (Check id) fits = let k = index_of W id in found_fits (λ o. checked W k o) k (stays_fit W all Reply.Unknown tt)
      (λ e at. check_fits W all k e at e.phase) (entry_of W id) refl
  next_fits (Take id) fits = let k = index_of W id in found_fits (λ o. taken_out W k o) k (stays_fit W all Reply.Unknown tt) (λ e at. taken_fits W all k e at)
      (entry_of W id) refl

pub replies_fit : (W : World) (events : List Event) → Each IsSendable W.table → AllByRecursion IsReadable events → AllByRecursion FitsReply (replies W events)
replies_fit W [] all readable = tt
replies_fit W (event ∷ events) all readable = let a = next_fits W all event readable.0 in (a.reply, replies_fit (next W event).0 events a.table readable.1)

pub fit_from : OutcomesFitFrom
fit_from c F events readable = replies_fit (start_with c F) events (λ k e at. absurd cc) readable

pub outcomes_fit : OutcomesFit
outcomes_fit c events readable = fit_from c empty_filestore events readable
