-- The octet before the end of all that was received of a transaction is there, at all times.
use Rattle.std.specs.Prelude.{slice_get, slice_set, nat_lt, nat_le, is_some}
use Rattle.std.proofs.Common.{◌≡◌, ◌⊎◌, inl, inr, ℕ, zero, suc, ◌+◌, Bool, true, false, not, ◌&&◌, ◌||◌, ◌==◌, if◌then◌else◌, List, [], ◌∷◌, drop, length, Option, Some, None, refl, sym, ap, subst, ◌∙◌}
use Rattle.std.proofs.lemmas.Bool.{cond_both}
use Rattle.std.proofs.lemmas.Option.{same_Some}
use Rattle.cfdp_actions.specs.Actions.{Item, succeeded}
use Rattle.cfdp_actions.specs.Filestore.{Change, Stages}
use Rattle.cfdp_status.specs.declared.transaction.TransactionId.{TransactionId}
use Rattle.cfdp_pdus.specs.Values.{MetadataFields, FileDataFields}
use Rattle.cfdp_pdus.specs.declared.header.Header.{Header}
use Rattle.cfdp_pdus.specs.declared.eof.Eof.{Eof}
use Rattle.cfdp_retransmission.specs.Coming.{continues}
use Rattle.cfdp_verifier.specs.Verdict.{Verdict, Refuse, Grant, verdict}
use Rattle.cfdp_transactions.specs.Admission.{proposal_of, judged, is_known_checksum, metadata_came, new_entry, refused_entry, with_new}
use Rattle.cfdp_transactions.specs.Delivery.{turned, turns, is_right_checksum, whole, limit, storing, stores, after_eof, stored, data_came, eof_came, check_at, checked}
use Rattle.cfdp_transactions.specs.Ending.{ended, ends, cancelled, taken_out}
use Rattle.cfdp_transactions.specs.declared.phase.Phase.{Phase}
use Rattle.cfdp_transactions.specs.declared.phase.Phase.TheVariants.{Receiving, Awaiting, Executing, Refused, Done, Ended}
use Rattle.cfdp_transactions.specs.Entry.{is_live, is_receiving, takes_data, Entry, name_of, has_file, id_of, gaps}
use Rattle.cfdp_transactions.specs.declared.event.Event.{Event}
use Rattle.cfdp_transactions.specs.declared.event.Event.TheVariants.{Metadata as MetadataCame, Data as DataCame, Eof as EofCame, Step, Cancel, Check, Take}
use Rattle.cfdp_transactions.specs.declared.reply.Reply.{Reply}
use Rattle.cfdp_transactions.specs.declared.reply.Reply.TheVariants as replies
use Rattle.cfdp_transactions.specs.Execution.{is_install, act_now, entry_after, entry_failed, step_at, step_in, stepped}
use Rattle.cfdp_transactions.specs.Next.{for_us, next, run}
use Rattle.cfdp_transactions.specs.Received.{Received, kept_with, pieces, is_whole, brought, staged_of}
use Rattle.cfdp_transactions.specs.ReceivedLaws.{octet_at}
use Rattle.cfdp_transactions.specs.Sound.{Each}
use Rattle.cfdp_transactions.specs.World.{World, index_in, spare_blocks, leases_of, bound, index_of, entry_of, change_at, free_slot}
use Rattle.cfdp_transactions.proofs.Finding.{found_name}
use Rattle.cfdp_transactions.proofs.Lookups.{set_own}
use Rattle.cfdp_transactions.proofs.Received.OctetsAndGaps.{first_stays}
use Rattle.cfdp_transactions.proofs.Indexes.{set_each, append_each, remove_index, before, get_set_same, set_set_same}
use Rattle.cfdp_retransmission.proofs.Arriving.{stays}

-- ---- octets

abbrev pub HasLast : Received → Type 0
HasLast rs = continues rs (length rs) ≡ true

last_cons : (r : Option ℕ) (rs : Received) → HasLast rs → (rs ≡ [] → is_some r ≡ true) → HasLast (r ∷ rs)
last_cons r [] last alone = alone refl
last_cons r (s ∷ rs) last alone = last

last_tail : (r : Option ℕ) (rs : Received) → HasLast (r ∷ rs) → HasLast rs
last_tail r [] last = refl
last_tail r (s ∷ rs) last = last

not_empty : (rs : Received) (at x : ℕ) (xs : List ℕ) → kept_with rs at (x ∷ xs) ≡ [] → ⊥
not_empty [] zero x xs e = absurd cc
not_empty [] (suc at) x xs e = absurd cc
not_empty (None ∷ rs) zero x xs e = absurd cc
not_empty (Some r ∷ rs) zero x xs e = absurd cc
not_empty (None ∷ rs) (suc at) x xs e = absurd cc
not_empty (Some r ∷ rs) (suc at) x xs e = absurd cc

kept_last : (rs : Received) (at : ℕ) (xs : List ℕ) → HasLast rs → HasLast (kept_with rs at xs)
kept_last rs at [] last = last
kept_last [] zero (x ∷ xs) last = last_cons (Some x) (kept_with [] zero xs) (kept_last [] zero xs refl) (λ e. refl)
kept_last [] (suc at) (x ∷ xs) last = last_cons None (kept_with [] at (x ∷ xs)) (kept_last [] at (x ∷ xs) refl) (λ e. absurd (not_empty [] at x xs e))
kept_last (None ∷ rs) zero (x ∷ xs) last = last_cons (Some x) (kept_with rs zero xs) (kept_last rs zero xs (last_tail None rs last)) (λ e. refl)
kept_last (Some r ∷ rs) zero (x ∷ xs) last = last_cons (Some r) (kept_with rs zero xs) (kept_last rs zero xs (last_tail (Some r) rs last)) (λ e. refl)
kept_last (None ∷ rs) (suc at) (x ∷ xs) last =
    last_cons None (kept_with rs at (x ∷ xs)) (kept_last rs at (x ∷ xs) (last_tail None rs last)) (λ e. absurd (not_empty rs at x xs e))
kept_last (Some r ∷ rs) (suc at) (x ∷ xs) last =
    last_cons (Some r) (kept_with rs at (x ∷ xs)) (kept_last rs at (x ∷ xs) (last_tail (Some r) rs last)) (λ e. absurd (not_empty rs at x xs e))

-- what was joined stays so
kept_joined : (rs : Received) (at : ℕ) (xs : List ℕ) (low : ℕ) → continues rs low ≡ true → continues (kept_with rs at xs) low ≡ true
kept_joined rs at xs zero h = refl
kept_joined rs at xs (suc low) h = ap is_some (first_stays rs at xs low) ∙ stays (octet_at rs low) (brought at xs low) h

-- ---- each event

abbrev pub LastThere : Entry → Type 0
LastThere e = HasLast e.received

abbrev Stays : World × Reply → Type 0
Stays a = Each LastThere a.0.table

module _ (W : World) (all : Each LastThere W.table) where
  module _ (k : ℕ) (e : Entry) (at : slice_get W.table k ≡ Some e) where
    changed_last : (changes : List Change) (new : Entry) → LastThere new → Each LastThere (change_at W k changes new).table
    changed_last changes new last = set_each (λ _ (d : Entry). LastThere d) W.table k new last (λ j d here ne. all j d here)

    ends_last : (now : Entry) (condition : ℕ) → Each LastThere (ends W k now condition).table
    ends_last now condition = changed_last (Stages now.slot [] ∷ []) (ended W.filestore now condition) refl

    turns_last : (phase : Phase) (eof : Option Eof) (complete : Bool) → Each LastThere (turns W k e phase eof complete).table
    turns_last phase eof complete = changed_last [] (turned e phase eof complete) (all k e at)

    cancelled_last : Stays (cancelled W k (Some e))
    cancelled_last = cond_both (is_live e.phase) _ _ Stays (λ _. ends_last e 15) (λ _. all)

    taken_last : Stays (taken_out W k (Some e))
    taken_last = cond_both (is_live e.phase) _ _ Stays (λ _. all) (λ _ j d here. all (before k j) d (sym (remove_index W.table k j) ∙ here))

    check_last : (phase : Phase) → Stays (check_at phase W k e)
    check_last (Awaiting checks) =
        cond_both (nat_le W.config.checks (checks + 1)) _ _ Stays (λ _. ends_last e 10) (λ _. turns_last (Awaiting (checks + 1)) e.eof e.complete)
    check_last Receiving = all
    check_last (Executing next) = all
    check_last Refused = all
    check_last Done = all
    check_last (Ended condition) = all

    whole_last : (sum : ℕ) → Stays (whole W k e sum)
    whole_last sum = cond_both (is_right_checksum e sum) _ _ Stays (λ _. turns_last (Executing 0) e.eof true) (λ _. ends_last e 5)

    eof_last : (eof : Eof) → Stays (eof_came W k eof (Some e))
    eof_last eof =
        cond_both (not (is_live e.phase)) _ _ Stays (λ _. all)
        (λ _. cond_both (not (eof.condition == 0)) _ _ Stays (λ _. ends_last (record e { ended_by_eof = true }) eof.condition)
        (λ _. cond_both (not (is_receiving e.phase)) _ _ Stays (λ _. all)
        (λ _. cond_both (length e.items == 0) _ _ Stays (λ _. turns_last Done e.eof true)
        (λ _. cond_both (not (has_file e.metadata)) _ _ Stays (λ _. turns_last (Executing 0) e.eof true)
        (λ _. cond_both (nat_lt (bound W.config e.metadata) eof.size || nat_lt eof.size (length e.received)) _ _ Stays (λ _. ends_last e 6)
        (λ _. cond_both (not (is_whole eof.size e.received)) _ _ Stays (λ _. turns_last (Awaiting 0) (Some eof) e.complete)
        (λ _. whole_last eof.checksum)))))))

    none_or : (b : Bool) → LastThere (record e { received = if b then [] else e.received })
    none_or true = refl
    none_or false = all k e at

    step_items_last : (n : ℕ) (items : List Item) → Stays (step_at W k e n items)
    step_items_last n [] = all
    step_items_last n (item ∷ items) =
        let o = act_now W e item in
        cond_both (succeeded o.answer) _ _ Stays (λ _. changed_last o.changes (entry_after e n item items o) (none_or (is_install item)))
        (λ _. ends_last (entry_failed e o) 4)

    step_last : (phase : Phase) → Stays (step_in phase W k e)
    step_last (Executing n) = step_items_last n (drop n e.items)
    step_last Receiving = all
    step_last (Awaiting checks) = all
    step_last Refused = all
    step_last Done = all
    step_last (Ended condition) = all

module _ (W : World) (all : Each LastThere W.table) (k : ℕ) (e : Entry) (at : slice_get W.table k ≡ Some e) (piece : FileDataFields) where
  abbrev received : Received
  received = kept_with e.received piece.offset piece.octets

  abbrev new : Entry
  new = storing W.filestore e received

  abbrev V : World
  V = stores W k e received

  all_now : Each LastThere V.table
  all_now = changed_last W all k e at (Stages e.slot (staged_of received) ∷ []) new (kept_last e.received piece.offset piece.octets (all k e at))

  there : slice_get V.table k ≡ Some new
  there = get_set_same W.table k new e at

  after_eof_last : (eof : Option Eof) → Stays (after_eof eof V k new)
  after_eof_last None = all_now
  after_eof_last (Some eof) = cond_both (is_whole eof.size new.received) _ _ Stays (λ _. whole_last V all_now k new there eof.checksum) (λ _. all_now)

  stored_last : (phase : Phase) → Stays (stored phase V k new)
  stored_last (Awaiting checks) = after_eof_last e.eof
  stored_last Receiving = all_now
  stored_last (Executing n) = all_now
  stored_last Refused = all_now
  stored_last Done = all_now
  stored_last (Ended condition) = all_now

  data_last : Stays (data_came W k piece (Some e))
  data_last =
      cond_both (takes_data e.phase) _ _ Stays
      (λ _. cond_both (length piece.octets == 0) _ _ Stays (λ _. all)
      (λ _. cond_both (nat_lt (limit e.phase W.config e) (piece.offset + length piece.octets)) _ _ Stays (λ _. ends_last W all k e at e 6)
      (λ _. cond_both (nat_lt 32 (pieces received)) _ _ Stays (λ _. all) (λ _. stored_last e.phase))))
      (λ _. all)

module _ (W : World) (all : Each LastThere W.table) where
  added_last : (new : Entry) → LastThere new → Each LastThere (with_new W new).table
  added_last new last = append_each (λ _ (d : Entry). LastThere d) W.table new last (λ j d here. all j d here)

  judged_last : (h : Header) (m : MetadataFields) (v : Verdict) → Stays (judged W h m v)
  judged_last h m (Refuse r) = added_last (refused_entry h m Refused) refl
  judged_last h m (Grant items blocks steps) = added_last (new_entry h m Receiving (free_slot W.table) items blocks steps) refl

  metadata_last : (h : Header) (m : MetadataFields) (o : Option Entry) → Stays (metadata_came W h m o)
  metadata_last h m (Some e) = all
  metadata_last h m None =
      cond_both (nat_le 64 (length W.table)) _ _ Stays (λ _. all)
      (λ _. cond_both (nat_lt 64 (length m.requests)) _ _ Stays (λ _. all)
      (λ _. cond_both (has_file m && not (is_known_checksum m.checksum_type)) _ _ Stays (λ _. added_last (refused_entry h m (Ended 11)) refl)
      (λ _. judged_last h m (verdict W.config.prefixes W.filestore (leases_of W.table) (spare_blocks W) (proposal_of W.config m)))))

  found_last : (f : Option Entry → World × Reply) (k : ℕ) → Stays (f None) → ((e : Entry) → slice_get W.table k ≡ Some e → Stays (f (Some e))) →
      (o : Option Entry) → slice_get W.table k ≡ o → Stays (f o)
  found_last f k unknown known None at = unknown
  found_last f k unknown known (Some e) at = known e at

  for_us_last : (h : Header) (a : World × Reply) → Stays a → Stays (for_us W h a)
  for_us_last h a s = cond_both (h.destination == W.config.entity) a _ Stays (λ _. s) (λ _. all)

  next_last : (event : Event) → Each LastThere (next W event).0.table
  next_last (MetadataCame h m) = for_us_last h _ (metadata_last h m (entry_of W (id_of h)))
  next_last (DataCame h piece) =
      let k = index_of W (id_of h) in
      for_us_last h (data_came W k piece (entry_of W (id_of h)))
      (found_last (λ o. data_came W k piece o) k all (λ e at. data_last W all k e at piece) (entry_of W (id_of h)) refl)
  next_last (EofCame h eof) =
      let k = index_of W (id_of h) in
      for_us_last h (eof_came W k eof (entry_of W (id_of h)))
      (found_last (λ o. eof_came W k eof o) k all (λ e at. eof_last W all k e at eof) (entry_of W (id_of h)) refl)
  next_last (Step id) = let k = index_of W id in found_last (λ o. stepped W k o) k all (λ e at. step_last W all k e at e.phase) (entry_of W id) refl
  next_last (Cancel id) = let k = index_of W id in found_last (λ o. cancelled W k o) k all (λ e at. cancelled_last W all k e at) (entry_of W id) refl
  next_last (Check id) = let k = index_of W id in found_last (λ o. checked W k o) k all (λ e at. check_last W all k e at e.phase) (entry_of W id) refl
  next_last (Take id) = let k = index_of W id in found_last (λ o. taken_out W k o) k all (λ e at. taken_last W all k e at) (entry_of W id) refl

pub run_last : (W : World) (events : List Event) → Each LastThere W.table → Each LastThere (run W events).table
run_last W [] all = all
run_last W (event ∷ events) all = run_last (next W event).0 events (next_last W all event)

-- ---- File Data: what is there after it goes on from all that was there before

-- or nothing is asked for
abbrev pub Joined : ℕ → Entry → Type 0
Joined low e = (continues e.received low ≡ true) ⊎ (gaps e ≡ [])

abbrev pub JoinedIn : TransactionId → ℕ → World × Reply → Type 0
JoinedIn id low a = (now : Entry) → entry_of a.0 id ≡ Some now → Joined low now

module _ (W : World) (id : TransactionId) (e : Entry) (here : entry_of W id ≡ Some e) (low : ℕ) (joined : continues e.received low ≡ true) where
  abbrev k : ℕ
  k = index_of W id

  same_joined : (reply : Reply) → JoinedIn id low (W, reply)
  same_joined reply now there = inl (ap (λ (x : Entry). continues x.received low) (sym (same_Some e now (sym here ∙ there))) ∙ joined)

  -- a world whose table has this entry instead of that one
  put_joined : (U : World) (new : Entry) (reply : Reply) → name_of new ≡ id → U.table ≡ slice_set W.table k new → Joined low new → JoinedIn id low (U, reply)
  put_joined U new reply name table j now there =
      let own : entry_of U id ≡ Some new = ap (λ (t : List Entry). slice_get t (index_in id t)) table ∙ set_own W.table id e new name here in
      subst (Joined low) (same_Some new now (sym own ∙ there)) j

  named : name_of e ≡ id
  named = found_name W.table id e here

  whole_joined : (U : World) (new : Entry) (sum : ℕ) → name_of new ≡ id → U.table ≡ slice_set W.table k new → JoinedIn id low (whole U k new sum)
  whole_joined U new sum name table =
      let again : (other : Entry) → slice_set U.table k other ≡ slice_set W.table k other =
      λ other. ap (λ (t : List Entry). slice_set t k other) table ∙ set_set_same W.table k new other in
      cond_both (is_right_checksum new sum) _ _ (JoinedIn id low)
      (λ _.
      let done : Entry = turned new (Executing 0) new.eof true in
      put_joined (turns U k new (Executing 0) new.eof true) done replies.Complete name (again done) (inr refl))
      (λ _. put_joined (ends U k new 5) (ended U.filestore new 5) (replies.Faulted 5) name (again (ended U.filestore new 5)) (inr refl))

  module _ (piece : FileDataFields) where
    abbrev more : Received
    more = kept_with e.received piece.offset piece.octets

    abbrev grown : Entry
    grown = storing W.filestore e more

    abbrev U : World
    U = stores W k e more

    kept_here : (reply : Reply) → JoinedIn id low (U, reply)
    kept_here reply = put_joined U grown reply named refl (inl (kept_joined e.received piece.offset piece.octets low joined))

    eof_joined : (eof : Option Eof) → JoinedIn id low (after_eof eof U k grown)
    eof_joined None = kept_here replies.Stored
    eof_joined (Some eof) =
        cond_both (is_whole eof.size more) _ _ (JoinedIn id low) (λ _. whole_joined U grown eof.checksum named refl) (λ _. kept_here replies.Stored)

    stored_joined : (phase : Phase) → JoinedIn id low (stored phase U k grown)
    stored_joined (Awaiting checks) = eof_joined e.eof
    stored_joined Receiving = kept_here replies.Stored
    stored_joined (Executing n) = kept_here replies.Stored
    stored_joined Refused = kept_here replies.Stored
    stored_joined Done = kept_here replies.Stored
    stored_joined (Ended condition) = kept_here replies.Stored

    data_joined : JoinedIn id low (data_came W k piece (Some e))
    data_joined =
        cond_both (takes_data e.phase) _ _ (JoinedIn id low)
        (λ _. cond_both (length piece.octets == 0) _ _ (JoinedIn id low) (λ _. same_joined replies.Stored)
        (λ _. cond_both (nat_lt (limit e.phase W.config e) (piece.offset + length piece.octets)) _ _ (JoinedIn id low)
        (λ _. put_joined (ends W k e 6) (ended W.filestore e 6) (replies.Faulted 6) named refl (inr refl))
        (λ _. cond_both (nat_lt 32 (pieces more)) _ _ (JoinedIn id low) (λ _. same_joined replies.Dropped) (λ _. stored_joined e.phase))))
        (λ _. same_joined replies.Idle)

pub next_joined : (W : World) (h : Header) (piece : FileDataFields) (e : Entry) (low : ℕ) → entry_of W (id_of h) ≡ Some e → continues e.received low ≡ true →
    JoinedIn (id_of h) low (next W (DataCame h piece))
next_joined W h piece e low here joined =
    cond_both (h.destination == W.config.entity) _ _ (JoinedIn (id_of h) low)
    (λ _. subst (λ (o : Option Entry). JoinedIn (id_of h) low (data_came W (index_of W (id_of h)) piece o)) (sym here)
    (data_joined W (id_of h) e here low joined piece))
    (λ _. same_joined W (id_of h) e here low joined replies.NotForUs)
