-- If a transaction is over, every item of its list was performed, or none was.
use Rattle.std.specs.Prelude.{⊤, slice_get, nat_lt, nat_le, is_some}
use Rattle.std.specs.List.{list_any}
use Rattle.std.proofs.Common.{◌≡◌, ◌⊎◌, inl, inr, ℕ, zero, suc, ◌+◌, Bool, true, false, not, ◌&&◌, ◌||◌, ◌==◌, if◌then◌else◌, List, [], ◌∷◌, ◌++◌, drop, length, Option, Some, None, refl, sym, ap, subst, ◌∙◌, append-nil, arith}
use Rattle.std.proofs.lemmas.Bool.{cond_both, cond-true, cases_Bool, not-true, not-false, eqb-true, ltb-false}
use Rattle.std.proofs.lemmas.Option.{none-some, same_Some}
use Rattle.cfdp_actions.specs.Actions.{Item, succeeded}
use Rattle.cfdp_actions.specs.Filestore.{Change, Stages}
use Rattle.cfdp_status.specs.declared.transaction.TransactionId.{TransactionId}
use Rattle.cfdp_pdus.specs.Values.{MetadataFields, FileDataFields}
use Rattle.cfdp_pdus.specs.declared.header.Header.{Header}
use Rattle.cfdp_pdus.specs.declared.eof.Eof.{Eof}
use Rattle.cfdp_retransmission.specs.declared.timer.Timer.{Timer}
use Rattle.cfdp_retransmission.specs.declared.timer.Expiry.TheVariants.{NotDue, Limit}
use Rattle.cfdp_verifier.specs.Verdict.{Verdict, Refuse, Grant, verdict}
use Rattle.cfdp_sessions.specs.Sessions.{SessionFields, session_id, AreDistinct}
use Rattle.cfdp_sessions.specs.declared.session.Stage.{Stage}
use Rattle.cfdp_sessions.specs.declared.session.Stage.TheVariants.{Held, Known, Over as OverStage, Waiting}
use Rattle.cfdp_sessions.proofs.Names.{found_name}
use Rattle.cfdp_transactions.specs.Admission.{proposal_of, judged, is_known_checksum, metadata_came, new_entry, refused_entry, with_new}
use Rattle.cfdp_transactions.specs.Delivery.{turned, turns, is_right_checksum, whole, limit, storing, stores, after_eof, stored, data_came, eof_came, check_at, checked}
use Rattle.cfdp_transactions.specs.Ending.{ended, ends, cancelled, taken_out}
use Rattle.cfdp_transactions.specs.declared.phase.Phase.{Phase}
use Rattle.cfdp_transactions.specs.declared.phase.Phase.TheVariants.{Receiving, Awaiting, Executing, Refused, Done, Ended}
use Rattle.cfdp_transactions.specs.Config.{Config}
use Rattle.cfdp_transactions.specs.Entries.{OnlyTakeRemoves, TakeRemoves}
use Rattle.cfdp_transactions.specs.Entry.{is_live, is_receiving, takes_data, items_left, Entry, name_of, has_file, id_of}
use Rattle.cfdp_transactions.specs.declared.event.Event.{Event}
use Rattle.cfdp_transactions.specs.declared.event.Event.TheVariants.{Metadata as MetadataCame, Data as DataCame, Eof as EofCame, Step, Cancel, Check, Take}
use Rattle.cfdp_transactions.specs.declared.reply.Reply.{Reply}
use Rattle.cfdp_transactions.specs.declared.reply.Reply.TheVariants as replies
use Rattle.cfdp_transactions.specs.Execution.{is_install, act_now, entry_after, entry_failed, phase_before, replied, step_at, step_in, stepped}
use Rattle.cfdp_transactions.specs.Headline.{NextIsSound, NextIsPromised, IsPerformed}
use Rattle.cfdp_transactions.specs.Next.{for_us, next, run}
use Rattle.cfdp_transactions.specs.Received.{Received, kept_with, pieces, is_whole, staged_of}
use Rattle.cfdp_transactions.specs.Sound.{Each, IsHonest, Sound, is_counted, successes}
use Rattle.cfdp_transactions.specs.World.{World, spare_blocks, leases_of, bound, index_in, index_of, entry_of, change_at, free_slot, next_runnable}
use Rattle.cfdp_transactions.proofs.Indexes.{set_each, append_each, remove_index, before, get_set_same}
use Rattle.cfdp_transactions.proofs.Finding.{found_name as entry_name}
use Rattle.cfdp_transactions.proofs.Lookups.{append_own}
use Rattle.cfdp_transactions.proofs.Options.{none_of}
use Rattle.cfdp_transactions.proofs.Promises.Promise.{get_drop}
use Rattle.cfdp_transactions.proofs.Soundness.Stepping.{drop_next}
use Rattle.cfdp_receiver.specs.declared.mib.Mib.{Mib}
use Rattle.cfdp_receiver.specs.declared.mib.Handler.{Handler}
use Rattle.cfdp_receiver.specs.declared.mib.Handler.TheVariants as handlers
use Rattle.cfdp_receiver.specs.State.{State, begin, Input, MetadataPdu, DataPdu, EofPdu, AckPdu, PromptPdu, OtherPdu, Expire, Work, Finish, CancelAsked, ForgetAsked, ClockMoved, NotTaken, now_of, session_of, is_closed, lacks_room, JointPhase, At_executing, at_phase, at_entry, at_stage, at_of}
use Rattle.cfdp_receiver.specs.Due as Dues
use Rattle.cfdp_receiver.specs.Handing as Handing
use Rattle.cfdp_receiver.specs.Handing.{has_performed, is_begun_entry}
use Rattle.cfdp_receiver.specs.Laws.{knows, AreKnown, NonePerformed, AllPerformed, AllOrNone}
use Rattle.cfdp_receiver.specs.Turning.{after_input, after_all, is_known}
use Rattle.cfdp_receiver.proofs.Distinct.{distinct_after}
use Rattle.cfdp_receiver.proofs.FinishedSentAtMost.{stage_due}
use Rattle.cfdp_receiver.proofs.OthersStay.{run_sound, sound_all}
use Rattle.cfdp_receiver.proofs.SessionsAreKnown.{Laws, known_after}

-- ---- what is true of an entry in its phase

-- the install is performed, or still to be performed
abbrev IsInstallKept : Bool → List Item → List Item → Type 0
IsInstallKept installed left items = (installed || list_any is_install left) ≡ list_any is_install items

abbrev PhaseKeeps : Phase → Entry → Type 0
PhaseKeeps Receiving e = NonePerformed e
PhaseKeeps (Awaiting checks) e = NonePerformed e
PhaseKeeps (Executing zero) e = NonePerformed e
PhaseKeeps (Executing (suc n)) e = IsInstallKept e.installed (drop (suc n) e.items) e.items
PhaseKeeps Refused e = NonePerformed e
PhaseKeeps Done e = e.installed ≡ list_any is_install e.items
PhaseKeeps (Ended condition) e = NonePerformed e

abbrev KeepsList : Entry → Type 0
KeepsList e = PhaseKeeps e.phase e

-- live, and not in the middle of its list
none_before : (phase : Phase) (e : Entry) → is_live phase ≡ true → has_performed phase ≡ false → PhaseKeeps phase e → NonePerformed e
none_before Receiving e live begun none = none
none_before (Awaiting checks) e live begun none = none
none_before (Executing zero) e live begun none = none
none_before (Executing (suc n)) e live begun none = absurd (omega (arith, ltb-false 0 (suc n) begun))
none_before Refused e live begun none = absurd cc
none_before Done e live begun none = absurd cc
none_before (Ended condition) e live begun none = absurd cc

none_receiving : (phase : Phase) (e : Entry) → is_receiving phase ≡ true → PhaseKeeps phase e → NonePerformed e
none_receiving Receiving e is none = none
none_receiving (Awaiting checks) e is none = absurd cc
none_receiving (Executing next) e is none = absurd cc
none_receiving Refused e is none = absurd cc
none_receiving Done e is none = absurd cc
none_receiving (Ended condition) e is none = absurd cc

none_taking : (phase : Phase) (e : Entry) → takes_data phase ≡ true → PhaseKeeps phase e → NonePerformed e
none_taking Receiving e is none = none
none_taking (Awaiting checks) e is none = none
none_taking (Executing next) e is none = absurd cc
none_taking Refused e is none = absurd cc
none_taking Done e is none = absurd cc
none_taking (Ended condition) e is none = absurd cc

-- when file data is taken it stays so
taking_phase : (phase : Phase) (e : Entry) → takes_data phase ≡ true → NonePerformed e → PhaseKeeps phase e
taking_phase Receiving e is none = none
taking_phase (Awaiting checks) e is none = none
taking_phase (Executing next) e is none = absurd cc
taking_phase Refused e is none = absurd cc
taking_phase Done e is none = absurd cc
taking_phase (Ended condition) e is none = absurd cc

-- before the first item, none of the list was performed
install_kept : (n : ℕ) (e : Entry) → PhaseKeeps (Executing n) e → IsInstallKept e.installed (drop n e.items) e.items
install_kept zero e none = ap (λ (b : Bool). b || list_any is_install e.items) none.installed
install_kept (suc n) e kept = kept

-- ---- each event

abbrev Keeps : World × Reply → Type 0
Keeps a = Each KeepsList a.0.table

or_assoc : (a b c : Bool) → ((a || b) || c) ≡ (a || (b || c))
or_assoc true b c = refl
or_assoc false b c = refl

or_none : (b : Bool) → (b || false) ≡ b
or_none true = refl
or_none false = refl

no_items : (items : List Item) → (length items == 0) ≡ true → list_any is_install items ≡ false
no_items [] none = refl
no_items (item ∷ items) none = absurd (omega (arith, eqb-true (length (item ∷ items)) 0 none))

module _ (W : World) (all : Each KeepsList W.table) where
  module _ (k : ℕ) (e : Entry) (at : slice_get W.table k ≡ Some e) where
    changed_keeps : (changes : List Change) (new : Entry) → KeepsList new → Each KeepsList (change_at W k changes new).table
    changed_keeps changes new keeps = set_each (λ _ (d : Entry). KeepsList d) W.table k new keeps (λ j d here ne. all j d here)

    ends_keeps : (now : Entry) (condition : ℕ) → NonePerformed now → Each KeepsList (ends W k now condition).table
    ends_keeps now condition none =
        changed_keeps (Stages now.slot [] ∷ []) (ended W.filestore now condition)
        (record { statuses = none.statuses; installed = none.installed; steps = none.steps })

    turns_keeps : (phase : Phase) (eof : Option Eof) (complete : Bool) → PhaseKeeps phase (turned e phase eof complete) →
        Each KeepsList (turns W k e phase eof complete).table
    turns_keeps phase eof complete keeps = changed_keeps [] (turned e phase eof complete) keeps

    none_turned : (phase : Phase) (eof : Option Eof) (complete : Bool) → NonePerformed e → NonePerformed (turned e phase eof complete)
    none_turned phase eof complete none = record { statuses = none.statuses; installed = none.installed; steps = none.steps }

    cancelled_keeps : has_performed e.phase ≡ false → Keeps (cancelled W k (Some e))
    cancelled_keeps begun =
        cond_both (is_live e.phase) _ _ Keeps (λ live. ends_keeps e 15 (none_before e.phase e live begun (all k e at))) (λ _. all)

    taken_keeps : Keeps (taken_out W k (Some e))
    taken_keeps = cond_both (is_live e.phase) _ _ Keeps (λ _. all) (λ _ j d here. all (before k j) d (sym (remove_index W.table k j) ∙ here))

    check_keeps : (phase : Phase) → PhaseKeeps phase e → Keeps (check_at phase W k e)
    check_keeps (Awaiting checks) none =
        cond_both (nat_le W.config.checks (checks + 1)) _ _ Keeps (λ _. ends_keeps e 10 none)
        (λ _. turns_keeps (Awaiting (checks + 1)) e.eof e.complete (none_turned (Awaiting (checks + 1)) e.eof e.complete none))
    check_keeps Receiving none = all
    check_keeps (Executing next) none = all
    check_keeps Refused none = all
    check_keeps Done none = all
    check_keeps (Ended condition) none = all

    whole_keeps : (sum : ℕ) → NonePerformed e → Keeps (whole W k e sum)
    whole_keeps sum none =
        cond_both (is_right_checksum e sum) _ _ Keeps (λ _. turns_keeps (Executing 0) e.eof true (none_turned (Executing 0) e.eof true none))
        (λ _. ends_keeps e 5 none)

    eof_keeps : (eof : Eof) → ((eof.condition == 0) ≡ false → has_performed e.phase ≡ false) → Keeps (eof_came W k eof (Some e))
    eof_keeps eof unbegun =
        let kept = all k e at in
        cond_both (not (is_live e.phase)) _ _ Keeps (λ _. all)
        (λ live. cond_both (not (eof.condition == 0)) _ _ Keeps
        (λ wrong.
        let none = none_before e.phase e (not-false (is_live e.phase) live) (unbegun (not-true (eof.condition == 0) wrong)) kept in
        ends_keeps (record e { ended_by_eof = true }) eof.condition
        (record { statuses = none.statuses; installed = none.installed; steps = none.steps }))
        (λ _. cond_both (not (is_receiving e.phase)) _ _ Keeps (λ _. all)
        (λ is.
        let none = none_receiving e.phase e (not-false (is_receiving e.phase) is) kept in
        cond_both (length e.items == 0) _ _ Keeps
        (λ empty. turns_keeps Done e.eof true (none.installed ∙ sym (no_items e.items empty)))
        (λ _. cond_both (not (has_file e.metadata)) _ _ Keeps (λ _. turns_keeps (Executing 0) e.eof true (none_turned (Executing 0) e.eof true none))
        (λ _. cond_both (nat_lt (bound W.config e.metadata) eof.size || nat_lt eof.size (length e.received)) _ _ Keeps (λ _. ends_keeps e 6 none)
        (λ _. cond_both (not (is_whole eof.size e.received)) _ _ Keeps
        (λ _. turns_keeps (Awaiting 0) (Some eof) e.complete (none_turned (Awaiting 0) (Some eof) e.complete none))
        (λ _. whole_keeps eof.checksum none)))))))

    -- a step of the item that is next, which succeeds
    after_item : (n : ℕ) (item : Item) (items : List Item) → drop n e.items ≡ item ∷ items → PhaseKeeps (Executing n) e →
        (e.installed || is_install item || list_any is_install items) ≡ list_any is_install e.items
    after_item n item items left kept =
        or_assoc e.installed (is_install item) (list_any is_install items)
        ∙ ap (λ (xs : List Item). e.installed || list_any is_install xs) (sym left)
        ∙ install_kept n e kept

    phase_keeps : (n : ℕ) (new : Entry) (items : List Item) → drop (suc n) new.items ≡ items →
        (new.installed || list_any is_install items) ≡ list_any is_install new.items → PhaseKeeps (phase_before (suc n) items) new
    phase_keeps n new [] left kept = sym (or_none new.installed) ∙ kept
    phase_keeps n new (item ∷ items) left kept = ap (λ (xs : List Item). new.installed || list_any is_install xs) left ∙ kept

    step_items_keeps : (n : ℕ) (items : List Item) → drop n e.items ≡ items → PhaseKeeps (Executing n) e → IsPerformed W (name_of e) e n →
        Keeps (step_at W k e n items)
    step_items_keeps n [] left kept performed = all
    step_items_keeps n (item ∷ items) left kept performed =
        let o = act_now W e item in
        let same : performed.item ≡ item = same_Some performed.item item (sym performed.is_next ∙ get_drop n e.items items item left) in
        let good : succeeded o.answer ≡ true = ap (λ (x : Item). succeeded (act_now W e x).answer) (sym same) ∙ performed.succeeds in
        let new = entry_after e n item items o in
        subst Keeps
        (sym (cond-true (succeeded o.answer) (change_at W k o.changes new, replied o.answer) (ends W k (entry_failed e o) 4, replied o.answer) good))
        (changed_keeps o.changes new (phase_keeps n new items (drop_next n e.items items item left) (after_item n item items left kept)))

    step_keeps : (phase : Phase) → PhaseKeeps phase e → ((n : ℕ) → phase ≡ Executing n → IsPerformed W (name_of e) e n) → Keeps (step_in phase W k e)
    step_keeps (Executing n) kept performed = step_items_keeps n (drop n e.items) refl kept (performed n refl)
    step_keeps Receiving kept performed = all
    step_keeps (Awaiting checks) kept performed = all
    step_keeps Refused kept performed = all
    step_keeps Done kept performed = all
    step_keeps (Ended condition) kept performed = all

module _ (W : World) (all : Each KeepsList W.table) (k : ℕ) (e : Entry) (at : slice_get W.table k ≡ Some e) (piece : FileDataFields) where
  abbrev received : Received
  received = kept_with e.received piece.offset piece.octets

  abbrev new : Entry
  new = storing W.filestore e received

  abbrev V : World
  V = stores W k e received

  module _ (takes : takes_data e.phase ≡ true) where
    none_new : NonePerformed new
    none_new =
        let none = none_taking e.phase e takes (all k e at) in
        record { statuses = none.statuses; installed = none.installed; steps = none.steps }

    all_now : Each KeepsList V.table
    all_now = changed_keeps W all k e at (Stages e.slot (staged_of received) ∷ []) new (taking_phase e.phase new takes none_new)

    there : slice_get V.table k ≡ Some new
    there = get_set_same W.table k new e at

    after_eof_keeps : (eof : Option Eof) → Keeps (after_eof eof V k new)
    after_eof_keeps None = all_now
    after_eof_keeps (Some eof) =
        cond_both (is_whole eof.size new.received) _ _ Keeps (λ _. whole_keeps V all_now k new there eof.checksum none_new) (λ _. all_now)

    stored_keeps : (phase : Phase) → Keeps (stored phase V k new)
    stored_keeps (Awaiting checks) = after_eof_keeps e.eof
    stored_keeps Receiving = all_now
    stored_keeps (Executing n) = all_now
    stored_keeps Refused = all_now
    stored_keeps Done = all_now
    stored_keeps (Ended condition) = all_now

  data_keeps : Keeps (data_came W k piece (Some e))
  data_keeps =
      cond_both (takes_data e.phase) _ _ Keeps
      (λ takes. cond_both (length piece.octets == 0) _ _ Keeps (λ _. all)
      (λ _. cond_both (nat_lt (limit e.phase W.config e) (piece.offset + length piece.octets)) _ _ Keeps
      (λ _. ends_keeps W all k e at e 6 (none_taking e.phase e takes (all k e at)))
      (λ _. cond_both (nat_lt 32 (pieces received)) _ _ Keeps (λ _. all) (λ _. stored_keeps takes e.phase))))
      (λ _. all)

-- ---- which events are handed on

-- no cancel in the middle of the list
abbrev IsAllowed : World → Event → Type 0
IsAllowed W (EofCame h eof) = (eof.condition == 0) ≡ false → is_begun_entry (entry_of W (id_of h)) ≡ false
IsAllowed W (Cancel id) = is_begun_entry (entry_of W id) ≡ false
IsAllowed W event = ⊤

abbrev AreAllowed : World → List Event → Type 0
AreAllowed W [] = ⊤
AreAllowed W (v ∷ vs) = IsAllowed W v × AreAllowed (next W v).0 vs

module _ (W : World) (all : Each KeepsList W.table) where
  added_keeps : (new : Entry) → KeepsList new → Each KeepsList (with_new W new).table
  added_keeps new keeps = append_each (λ _ (d : Entry). KeepsList d) W.table new keeps (λ j d here. all j d here)

  none_new_entry : (h : Header) (m : MetadataFields) (phase : Phase) (slot : ℕ) (items : List Item) (blocks steps : ℕ) →
      NonePerformed (new_entry h m phase slot items blocks steps)
  none_new_entry h m phase slot items blocks steps = record { statuses = refl; installed = refl; steps = refl }

  judged_keeps : (h : Header) (m : MetadataFields) (v : Verdict) → Keeps (judged W h m v)
  judged_keeps h m (Refuse r) = added_keeps (refused_entry h m Refused) (none_new_entry h m Refused 0 [] 0 0)
  judged_keeps h m (Grant items blocks steps) =
      added_keeps (new_entry h m Receiving (free_slot W.table) items blocks steps) (none_new_entry h m Receiving (free_slot W.table) items blocks steps)

  metadata_keeps : (h : Header) (m : MetadataFields) (o : Option Entry) → Keeps (metadata_came W h m o)
  metadata_keeps h m (Some e) = all
  metadata_keeps h m None =
      cond_both (nat_le 64 (length W.table)) _ _ Keeps (λ _. all)
      (λ _. cond_both (nat_lt 64 (length m.requests)) _ _ Keeps (λ _. all)
      (λ _. cond_both (has_file m && not (is_known_checksum m.checksum_type)) _ _ Keeps
      (λ _. added_keeps (refused_entry h m (Ended 11)) (none_new_entry h m (Ended 11) 0 [] 0 0))
      (λ _. judged_keeps h m (verdict W.config.prefixes W.filestore (leases_of W.table) (spare_blocks W) (proposal_of W.config m)))))

  found_keeps : (f : Option Entry → World × Reply) (k : ℕ) → Keeps (f None) → ((e : Entry) → slice_get W.table k ≡ Some e → Keeps (f (Some e))) →
      (o : Option Entry) → slice_get W.table k ≡ o → Keeps (f o)
  found_keeps f k unknown known None at = unknown
  found_keeps f k unknown known (Some e) at = known e at

  for_us_keeps : (h : Header) (a : World × Reply) → Keeps a → Keeps (for_us W h a)
  for_us_keeps h a s = cond_both (h.destination == W.config.entity) a _ Keeps (λ _. s) (λ _. all)

  next_keeps : NextIsPromised → Sound W → (event : Event) → IsAllowed W event → Each KeepsList (next W event).0.table
  next_keeps promised sound (MetadataCame h m) allowed = for_us_keeps h _ (metadata_keeps h m (entry_of W (id_of h)))
  next_keeps promised sound (DataCame h piece) allowed =
      let k = index_of W (id_of h) in
      for_us_keeps h (data_came W k piece (entry_of W (id_of h)))
      (found_keeps (λ o. data_came W k piece o) k all (λ e at. data_keeps W all k e at piece) (entry_of W (id_of h)) refl)
  next_keeps promised sound (EofCame h eof) allowed =
      let k = index_of W (id_of h) in
      for_us_keeps h (eof_came W k eof (entry_of W (id_of h)))
      (found_keeps (λ o. eof_came W k eof o) k all
      (λ e at. eof_keeps W all k e at eof (λ wrong. ap is_begun_entry (sym at) ∙ allowed wrong)) (entry_of W (id_of h)) refl)
  next_keeps promised sound (Step id) allowed =
      let k = index_of W id in
      found_keeps (λ o. stepped W k o) k all
      (λ e at. step_keeps W all k e at e.phase (all k e at)
      (λ n is. subst (λ (x : TransactionId). IsPerformed W x e n) (sym (entry_name W.table id e at))
      ((promised W (Step id) sound).performed id e n refl at is))) (entry_of W id) refl
  next_keeps promised sound (Cancel id) allowed =
      let k = index_of W id in
      found_keeps (λ o. cancelled W k o) k all (λ e at. cancelled_keeps W all k e at (ap is_begun_entry (sym at) ∙ allowed)) (entry_of W id) refl
  next_keeps promised sound (Check id) allowed =
      let k = index_of W id in found_keeps (λ o. checked W k o) k all (λ e at. check_keeps W all k e at e.phase (all k e at)) (entry_of W id) refl
  next_keeps promised sound (Take id) allowed =
      let k = index_of W id in found_keeps (λ o. taken_out W k o) k all (λ e at. taken_keeps W all k e at) (entry_of W id) refl

run_keeps : NextIsSound → NextIsPromised → (W : World) (events : List Event) → Sound W → Each KeepsList W.table → AreAllowed W events →
    Each KeepsList (run W events).table
run_keeps next_sound promised W [] sound all allowed = all
run_keeps next_sound promised W (event ∷ events) sound all allowed =
    run_keeps next_sound promised (next W event).0 events (next_sound W event sound) (next_keeps W all promised sound event allowed.0) allowed.1

-- ---- a transaction that is new has not begun its list

abbrev Unbegun : TransactionId → World × Reply → Type 0
Unbegun id a = is_begun_entry (entry_of a.0 id) ≡ false

new_unbegun : (W : World) (id : TransactionId) (new : Entry) → entry_of W id ≡ None → name_of new ≡ id → has_performed new.phase ≡ false →
    is_begun_entry (entry_of (with_new W new) id) ≡ false
new_unbegun W id new none name unbegun = ap is_begun_entry (append_own W.table id new name none) ∙ unbegun

judged_unbegun : (W : World) (h : Header) (m : MetadataFields) (v : Verdict) → entry_of W (id_of h) ≡ None → Unbegun (id_of h) (judged W h m v)
judged_unbegun W h m (Refuse r) none = new_unbegun W (id_of h) (refused_entry h m Refused) none refl refl
judged_unbegun W h m (Grant items blocks steps) none = new_unbegun W (id_of h) (new_entry h m Receiving _ items blocks steps) none refl refl

metadata_unbegun : (W : World) (h : Header) (m : MetadataFields) → entry_of W (id_of h) ≡ None → Unbegun (id_of h) (next W (MetadataCame h m))
metadata_unbegun W h m none =
    let id = id_of h in
    let still = ap is_begun_entry none in
    cond_both (h.destination == W.config.entity) (metadata_came W h m (entry_of W id)) (W, replies.NotForUs) (Unbegun id)
    (λ _. subst (λ (o : Option Entry). Unbegun id (metadata_came W h m o)) (sym none)
    (cond_both (nat_le 64 (length W.table)) _ _ (Unbegun id) (λ _. still)
    (λ _. cond_both (nat_lt 64 (length m.requests)) _ _ (Unbegun id) (λ _. still)
    (λ _. cond_both (has_file m && not (is_known_checksum m.checksum_type)) _ _ (Unbegun id)
    (λ _. new_unbegun W id (refused_entry h m (Ended 11)) none refl refl)
    (λ _. judged_unbegun W h m (verdict W.config.prefixes W.filestore (leases_of W.table) (spare_blocks W) (proposal_of W.config m)) none)))))
    (λ _. still)

-- ---- what an input hands on

phase_executes : (phase : Phase) → has_performed phase ≡ true → at_phase phase ≡ At_executing
phase_executes (Executing next) begun = refl
phase_executes Receiving begun = absurd cc
phase_executes (Awaiting checks) begun = absurd cc
phase_executes Refused begun = absurd cc
phase_executes Done begun = absurd cc
phase_executes (Ended condition) begun = absurd cc

none_expires : (mib : Mib) (checks : ℕ) (acknowledged : Bool) (timer : Timer) → Dues.terms_at mib checks acknowledged timer At_executing ≡ None
none_expires mib checks true timer = refl
none_expires mib checks false timer = refl

never_limit : NotDue ≡ Limit → ⊥
never_limit e = absurd cc

module _ (R : State) where
  abbrev Allowed : List Event → Type 0
  Allowed vs = AreAllowed R.world vs

  held_allowed : AreKnown R → (h : Header) (m : MetadataFields) (s : SessionFields) (eof : Eof) → session_of R (id_of h) ≡ Some s →
      s.stage ≡ Held eof → Allowed (MetadataCame h m ∷ EofCame s.header eof ∷ [])
  held_allowed known h m s eof here held =
      let unknown : entry_of R.world (id_of h) ≡ None =
      none_of (entry_of R.world (id_of h)) (known (id_of h) ∙ ap knows here ∙ ap is_known held) in
      let name : session_id s ≡ id_of h = found_name R.sessions (id_of h) s here in
      let V = (next R.world (MetadataCame h m)).0 in
      (tt, ((λ _. ap (λ (n : TransactionId). is_begun_entry (entry_of V n)) name ∙ metadata_unbegun R.world h m unknown), tt))

  in_stage_allowed : AreKnown R → (h : Header) (m : MetadataFields) (s : SessionFields) (stage : Stage) → session_of R (id_of h) ≡ Some s →
      s.stage ≡ stage → Allowed (Handing.metadata_in_stage h m s stage)
  in_stage_allowed known h m s (Held eof) here is =
      cond_both h.acknowledged _ _ Allowed (λ _. held_allowed known h m s eof here is) (λ _. tt)
  in_stage_allowed known h m s Known here is = (tt, tt)
  in_stage_allowed known h m s (OverStage ending) here is = tt
  in_stage_allowed known h m s Waiting here is = tt

  metadata_allowed : AreKnown R → (h : Header) (m : MetadataFields) (o : Option SessionFields) → session_of R (id_of h) ≡ o →
      Allowed (Handing.metadata_events R h m o)
  metadata_allowed known h m None here = cond_both (is_closed R (id_of h) || lacks_room R (id_of h)) _ _ Allowed (λ _. tt) (λ _. (tt, tt))
  metadata_allowed known h m (Some s) here = in_stage_allowed known h m s s.stage here refl

  where_known_allowed : (stage : Stage) (vs : List Event) → (stage ≡ Known → Allowed vs) → Allowed (Handing.where_known stage vs)
  where_known_allowed Known vs allowed = allowed refl
  where_known_allowed (Held eof) vs allowed = tt
  where_known_allowed (OverStage ending) vs allowed = tt
  where_known_allowed Waiting vs allowed = tt

  of_session_allowed : (o : Option SessionFields) (vs : List Event) → Allowed vs → Allowed (Handing.of_session o vs)
  of_session_allowed None vs allowed = tt
  of_session_allowed (Some s) vs allowed = where_known_allowed s.stage vs (λ _. allowed)

  eof_allowed : (h : Header) (eof : Eof) → Allowed (Handing.eof_events R h eof)
  eof_allowed h eof =
      let begun = Handing.is_list_begun R (id_of h) in
      cond_both (not (eof.condition == 0) && begun) _ _ Allowed (λ _. tt)
      (λ taken. ((λ wrong. sym (ap (λ (b : Bool). not b && begun) wrong) ∙ taken), tt))

  cancel_allowed : (id : TransactionId) → Allowed (Handing.cancel_events R id)
  cancel_allowed id = cond_both (Handing.is_list_begun R id) _ _ Allowed (λ _. tt) (λ unbegun. (unbegun, tt))

  -- a timer that is due is none of the middle of a list
  entry_executes : (o : Option Entry) → is_begun_entry o ≡ true → at_entry o ≡ At_executing
  entry_executes None begun = absurd cc
  entry_executes (Some e) begun = phase_executes e.phase begun

  due_unbegun : (s : SessionFields) → s.stage ≡ Known → Dues.expiry_of R s ≡ Limit → is_begun_entry (entry_of R.world (session_id s)) ≡ false
  due_unbegun s known reached = elim (cases_Bool (is_begun_entry (entry_of R.world (session_id s)))) [
    | inl begun ↦
        let at : at_of R.world s ≡ At_executing =
        ap (λ (stage : Stage). at_stage stage (entry_of R.world (session_id s))) known ∙ entry_executes (entry_of R.world (session_id s)) begun in
        absurd (never_limit (sym (sym reached ∙ ap (λ (x : JointPhase). Dues.expiry_by R.now s.timer
        (Dues.terms_at R.mib R.world.config.checks s.header.acknowledged s.timer x)) at
        ∙ ap (Dues.expiry_by R.now s.timer) (none_expires R.mib R.world.config.checks s.header.acknowledged s.timer))))
    | inr unbegun ↦ unbegun
  ]

  limit_allowed : (id : TransactionId) (checks : Bool) (handler : Handler) → is_begun_entry (entry_of R.world id) ≡ false →
      Allowed (Handing.limit_events id checks handler)
  limit_allowed id checks handlers.Ignore unbegun = tt
  limit_allowed id true handlers.Cancel unbegun = (tt, tt)
  limit_allowed id false handlers.Cancel unbegun = (unbegun, tt)
  limit_allowed id checks handlers.Abandon unbegun = (unbegun, tt)

  due_allowed : (due : Dues.Due) → Dues.first_due R R.sessions ≡ due → Allowed (Handing.due_events R due)
  due_allowed Dues.Nothing_due is = tt
  due_allowed (Dues.Alive_due s) is = tt
  due_allowed (Dues.Stage_due s false) is =
      let checks = Handing.makes_checks s.header.acknowledged (at_of R.world s) in
      where_known_allowed s.stage (if checks then Check (session_id s) ∷ [] else [])
      (λ _. cond_both checks _ _ Allowed (λ _. (tt, tt)) (λ _. tt))
  due_allowed (Dues.Stage_due s true) is =
      let at = at_of R.world s in
      where_known_allowed s.stage (Handing.limit_events (session_id s) (Handing.makes_checks s.header.acknowledged at)
      (Dues.handler_at R.mib s.header.acknowledged at))
      (λ known. limit_allowed (session_id s) (Handing.makes_checks s.header.acknowledged at) (Dues.handler_at R.mib s.header.acknowledged at)
      (due_unbegun s known (stage_due R R.sessions s true is).1))

  step_allowed : (o : Option TransactionId) → Allowed (Handing.step_of o)
  step_allowed None = tt
  step_allowed (Some id) = (tt, tt)

  take_allowed : (o : Option SessionFields) → Allowed (Handing.take_of o)
  take_allowed None = tt
  take_allowed (Some s) = where_known_allowed s.stage (Take (session_id s) ∷ []) (λ _. (tt, tt))

  ours_allowed : (h : Header) (vs : List Event) → Allowed vs → Allowed (if Handing.is_ours R h then vs else [])
  ours_allowed h vs allowed = cond_both (Handing.is_ours R h) vs [] Allowed (λ _. allowed) (λ _. tt)

  events_allowed : AreKnown R → (i : Input) → Allowed (Handing.events_of R i)
  events_allowed known (MetadataPdu now h m) = ours_allowed h _ (metadata_allowed known h m (session_of R (id_of h)) refl)
  events_allowed known (DataPdu now h piece) = ours_allowed h _ (of_session_allowed (session_of R (id_of h)) (DataCame h piece ∷ []) (tt, tt))
  events_allowed known (EofPdu now h eof) = ours_allowed h _ (of_session_allowed (session_of R (id_of h)) (Handing.eof_events R h eof) (eof_allowed h eof))
  events_allowed known (AckPdu now h ack) = tt
  events_allowed known (PromptPdu now h prompt) = tt
  events_allowed known (OtherPdu now h) = tt
  events_allowed known (Expire now) = due_allowed (Dues.first_due R R.sessions) refl
  events_allowed known (Work now) = step_allowed (next_runnable R.world.table)
  events_allowed known (Finish now) = take_allowed (Dues.first_over R.world R.sessions)
  events_allowed known (CancelAsked now id) = of_session_allowed (session_of R id) (Handing.cancel_events R id) (cancel_allowed id)
  events_allowed known ForgetAsked = tt
  events_allowed known (ClockMoved now) = tt
  events_allowed known NotTaken = tt

-- ---- whatever comes

pub keeps_lists : Laws → NextIsSound → NextIsPromised → (R : State) (inputs : List Input) → Sound R.world → AreDistinct R.sessions → AreKnown R →
    Each KeepsList R.world.table → Each KeepsList (after_all R inputs).world.table
keeps_lists laws next_sound promised R [] sound d known all = all
keeps_lists laws next_sound promised R (i ∷ is) sound d known all =
    let events = Handing.handed R i in
    keeps_lists laws next_sound promised (after_input R i) is (run_sound next_sound R.world events sound) (distinct_after R i d)
    (known_after laws next_sound promised R i sound d known)
    (run_keeps next_sound promised R.world events sound all (events_allowed (Handing.later (now_of i) R) known i))

-- ---- a transaction that is over

over_by : (c : Config) (phase : Phase) (e : Entry) → e.phase ≡ phase → is_live phase ≡ false → PhaseKeeps phase e → IsHonest c e →
    NonePerformed e ⊎ AllPerformed e
over_by c Receiving e is over kept honest = absurd cc
over_by c (Awaiting checks) e is over kept honest = absurd cc
over_by c (Executing next) e is over kept honest = absurd cc
over_by c Refused e is over kept honest = inl kept
over_by c Done e is over kept honest =
    inr (record {
      statuses =
          sym (append-nil e.statuses)
          ∙ ap (λ (p : Phase). e.statuses ++ successes (items_left p e.items)) (sym is)
          ∙ honest.to_come (ap is_counted is);
      installed = kept;
    })
over_by c (Ended condition) e is over kept honest = inl kept

pub all_or_none : OnlyTakeRemoves → TakeRemoves → NextIsSound → NextIsPromised → AllOrNone
all_or_none only_take takes next_sound promised mib W inputs id e sound none here over =
    let laws : Laws = record { only_take = only_take; takes = takes } in
    let known : AreKnown (begin mib W) = λ id. ap (λ (t : List Entry). is_some (slice_get t (index_in id t))) none in
    let N = after_all (begin mib W) inputs in
    let none_yet : Each KeepsList W.table = λ k d at. absurd (none-some d (ap (λ (t : List Entry). slice_get t k) (sym none) ∙ at)) in
    let all = keeps_lists laws next_sound promised (begin mib W) inputs sound tt known none_yet in
    let still = sound_all next_sound (begin mib W) inputs sound in
    over_by N.world.config e.phase e refl over (all (index_of N.world id) e here) (still.honest (index_of N.world id) e here)
