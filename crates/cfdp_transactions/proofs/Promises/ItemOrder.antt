-- What holds of each entry in each world of a run: its items are those of a list, and its file is installed or still to be.
--     IsInOrder e               of an entry
--     next_ordered, from_ordered         each event, and each run, keeps it so
--     ordered_from                       so it holds in each run, whatever the filestore at its start
use Rattle.std.proofs.Common.{◌≡◌, ℕ, suc, ◌+◌, List, [], ◌∷◌, length, drop, refl, ap, sym, ◌∙◌}
use Rattle.std.specs.Prelude.{Bool, true, false, Option, Some, None, slice_get, not, ◌&&◌, ◌||◌, ◌==◌, nat_lt, nat_le, IsTrue}
use Rattle.std.specs.List.{AllByRecursion}
use Rattle.std.proofs.Math.Bool.{or_assoc}
use Rattle.std.proofs.lemmas.Bool.{cond_both, not-false, eqb-true}
use Rattle.std.proofs.lemmas.List.{nil_from_length}
use Rattle.cfdp_actions.specs.Filestore.{Filestore, Change, Stages}
use Rattle.cfdp_actions.specs.Actions.{Item, succeeded}
use Rattle.cfdp_leases.specs.Laws.{NamesPaths}
use Rattle.cfdp_pdus.specs.Values.{MetadataFields, FileDataFields}
use Rattle.cfdp_pdus.specs.declared.header.Header.{Header}
use Rattle.cfdp_pdus.specs.declared.eof.Eof.{Eof}
use Rattle.cfdp_verifier.specs.Verdict.{Verdict, Refuse, Grant, verdict}
use Rattle.cfdp_transactions.specs.Config.{Config}
use Rattle.cfdp_transactions.specs.Received.{kept_with, pieces, is_whole, Received, staged_of}
use Rattle.cfdp_transactions.specs.Entry.{Phase, Receiving, Awaiting, Executing, Refused, Done, Ended, is_live, is_receiving, takes_data, Entry, has_file, rest, items_left, id_of}
use Rattle.cfdp_transactions.specs.Events.{Event, MetadataCame, DataCame, EofCame, Step, Cancel, Check, Take, Reply}
use Rattle.cfdp_transactions.specs.World.{World, spare_blocks, leases_of, bound, index_of, entry_of, change_at, free_slot}
use Rattle.cfdp_transactions.specs.Beginning.{start_with}
use Rattle.cfdp_transactions.specs.Ending.{ended, ends, cancelled, taken_out}
use Rattle.cfdp_transactions.specs.Delivery.{turned, turns, is_right_checksum, whole, limit, storing, stores, after_eof, stored, data_came, eof_came, check_at, checked}
use Rattle.cfdp_transactions.specs.Execution.{is_install, act_now, phase_before, entry_after, entry_failed, step_at, step_in, stepped}
use Rattle.cfdp_transactions.specs.Admission.{proposal_of, judged, is_known_checksum, metadata_came, new_entry, refused_entry, with_new}
use Rattle.cfdp_transactions.specs.Next.{for_us, next, run}
use Rattle.cfdp_transactions.specs.Sound.{Each, is_counted, is_next_install}
use Rattle.cfdp_transactions.proofs.Promises.ItemsListed.{has_install, IsListed, install_at_front, granted_listed}
use Rattle.cfdp_transactions.proofs.Indexes.{set_each, append_each, remove_index, before, get_set_same}
use Rattle.cfdp_transactions.proofs.Soundness.Stepping.{drop_next}

pub record IsInOrder (e : Entry) : Type 0 where
  pub paths : AllByRecursion NamesPaths e.items
  pub following : has_install (drop 1 e.items) ≡ false
  pub first : IsTrue (is_counted e.phase) → is_next_install e.items ≡ has_file e.metadata
  pub due : IsTrue (is_counted e.phase) → (e.installed || has_install (rest e)) ≡ has_file e.metadata

-- an entry in another phase, with the same items, of which as many are still to be installed
record IsLike (e new : Entry) : Type 0 where
  metadata : new.metadata ≡ e.metadata
  items : new.items ≡ e.items
  counted : IsTrue (is_counted new.phase) → IsTrue (is_counted e.phase)
  due : IsTrue (is_counted new.phase) → (new.installed || has_install (rest new)) ≡ (e.installed || has_install (rest e))

like_ordered : (e new : Entry) → IsInOrder e → IsLike e new → IsInOrder new
like_ordered e new s l = record {
  paths = rw l.items s.paths;
  following = rw l.items s.following;
  first = λ h. rw (l.items, l.metadata) (s.first (l.counted h));
  due = λ h. rw l.metadata (l.due h ∙ s.due (l.counted h));
}

-- phases -----------------------------------------------------------------------------

takes_all : (phase : Phase) (items : List Item) → IsTrue (takes_data phase) → items_left phase items ≡ items
takes_all Receiving items h = refl
takes_all (Awaiting checks) items h = refl
takes_all (Executing next) items h = absurd cc
takes_all Refused items h = absurd cc
takes_all Done items h = absurd cc
takes_all (Ended condition) items h = absurd cc

takes_counted : (phase : Phase) → IsTrue (takes_data phase) → IsTrue (is_counted phase)
takes_counted Receiving h = refl
takes_counted (Awaiting checks) h = refl
takes_counted (Executing next) h = absurd cc
takes_counted Refused h = absurd cc
takes_counted Done h = absurd cc
takes_counted (Ended condition) h = absurd cc

receiving_takes : (phase : Phase) → IsTrue (is_receiving phase) → IsTrue (takes_data phase)
receiving_takes Receiving h = refl
receiving_takes (Awaiting checks) h = absurd cc
receiving_takes (Executing next) h = absurd cc
receiving_takes Refused h = absurd cc
receiving_takes Done h = absurd cc
receiving_takes (Ended condition) h = absurd cc

-- what is left after an item that went well
items_left_here : (n : ℕ) (all items : List Item) (item : Item) → drop n all ≡ item ∷ items → items_left (phase_before (suc n) items) all ≡ items
items_left_here n all [] item left = refl
items_left_here n all (next ∷ items) item left = drop_next n all (next ∷ items) item left

-- the events ---------------------------------------------------------------------------

abbrev Ordered : World × Reply → Type 0
Ordered a = Each IsInOrder a.0.table

module _ (W : World) (all : Each IsInOrder W.table) where
  module _ (k : ℕ) (e : Entry) (at : slice_get W.table k ≡ Some e) where
    changed_ordered : (changes : List Change) (new : Entry) → IsLike e new → Each IsInOrder (change_at W k changes new).table
    changed_ordered changes new like = set_each (λ _ (d : Entry). IsInOrder d) W.table k new (like_ordered e new (all k e at) like)
        (λ j d here ne. all j d here)

    ends_ordered : (now : Entry) (condition : ℕ) → now.metadata ≡ e.metadata → now.items ≡ e.items → Each IsInOrder (ends W k now condition).table
    ends_ordered now condition metadata items =
        changed_ordered (Stages now.slot [] ∷ []) (ended W.filestore now condition)
        (record { metadata = metadata; items = items; counted = λ h. absurd cc; due = λ h. absurd cc })

    turns_ordered : (phase : Phase) (eof : Option Eof) (complete : Bool) → IsTrue (takes_data e.phase) → items_left phase e.items ≡ e.items →
        Each IsInOrder (turns W k e phase eof complete).table
    turns_ordered phase eof complete takes still =
        changed_ordered [] (turned e phase eof complete) (record {
          metadata = refl;
          items = refl;
          counted = λ _. takes_counted e.phase takes;
          due = λ _. ap (λ (items : List Item). e.installed || has_install items) (still ∙ sym (takes_all e.phase e.items takes));
        })

    cancelled_ordered : Ordered (cancelled W k (Some e))
    cancelled_ordered = cond_both (is_live e.phase) _ _ Ordered (λ _. ends_ordered e 15 refl refl) (λ _. all)

    taken_ordered : Ordered (taken_out W k (Some e))
    taken_ordered = cond_both (is_live e.phase) _ _ Ordered (λ _. all) (λ _ j d here. all (before k j) d (sym (remove_index W.table k j) ∙ here))

    check_ordered : (phase : Phase) → e.phase ≡ phase → Ordered (check_at phase W k e)
    check_ordered (Awaiting checks) is = cond_both (nat_le W.config.checks (checks + 1)) _ _ Ordered
        (λ _. ends_ordered e 10 refl refl) (λ _. turns_ordered (Awaiting (checks + 1)) e.eof e.complete (rw is refl) refl)
    check_ordered Receiving is = all
    check_ordered (Executing next) is = all
    check_ordered Refused is = all
    check_ordered Done is = all
    check_ordered (Ended condition) is = all

    whole_ordered : (sum : ℕ) → IsTrue (takes_data e.phase) → Ordered (whole W k e sum)
    whole_ordered sum takes = cond_both (is_right_checksum e sum) _ _ Ordered (λ _. turns_ordered (Executing 0) e.eof true takes refl)
        (λ _. ends_ordered e 5 refl refl)

    eof_ordered : (eof : Eof) → Ordered (eof_came W k eof (Some e))
    eof_ordered eof =
        cond_both (not (is_live e.phase)) _ _ Ordered (λ _. all)
        (λ _. cond_both (not (eof.condition == 0)) _ _ Ordered (λ _. ends_ordered (record e { ended_by_eof = true }) eof.condition refl refl)
        (λ _. cond_both (not (is_receiving e.phase)) _ _ Ordered (λ _. all)
        (λ receiving.
        let takes : IsTrue (takes_data e.phase) = receiving_takes e.phase (not-false _ receiving) in
        cond_both (length e.items == 0) _ _ Ordered (λ none. turns_ordered Done e.eof true takes (sym (nil_from_length e.items (eqb-true _ _ none))))
        (λ _. cond_both (not (has_file e.metadata)) _ _ Ordered (λ _. turns_ordered (Executing 0) e.eof true takes refl)
        (λ _. cond_both (nat_lt (bound W.config e.metadata) eof.size || nat_lt eof.size (length e.received)) _ _ Ordered (λ _. ends_ordered e 6 refl refl)
        (λ _. cond_both (not (is_whole eof.size e.received)) _ _ Ordered (λ _. turns_ordered (Awaiting 0) (Some eof) e.complete takes refl)
        (λ _. whole_ordered eof.checksum takes)))))))

    step_items_ordered : (n : ℕ) (items : List Item) → e.phase ≡ Executing n → drop n e.items ≡ items → Ordered (step_at W k e n items)
    step_items_ordered n [] is left = all
    step_items_ordered n (item ∷ items) is left =
        let o = act_now W e item in
        cond_both (succeeded o.answer) _ _ Ordered
        (λ _. changed_ordered o.changes (entry_after e n item items o) (record {
          metadata = refl;
          items = refl;
          counted = λ _. rw is refl;
          due = λ _.
              ap (λ (following : List Item). (e.installed || is_install item) || has_install following) (items_left_here n e.items items item left)
              ∙ or_assoc e.installed (is_install item) (has_install items)
              ∙ ap (λ (all : List Item). e.installed || has_install all) (sym (ap (λ (phase : Phase). items_left phase e.items) is ∙ left));
        }))
        (λ _. ends_ordered (entry_failed e o) 4 refl refl)

    step_ordered : (phase : Phase) → e.phase ≡ phase → Ordered (step_in phase W k e)
    step_ordered (Executing n) is = step_items_ordered n (drop n e.items) is refl
    step_ordered Receiving is = all
    step_ordered (Awaiting checks) is = all
    step_ordered Refused is = all
    step_ordered Done is = all
    step_ordered (Ended condition) is = all

module _ (W : World) (all : Each IsInOrder W.table) (k : ℕ) (e : Entry) (at : slice_get W.table k ≡ Some e) (piece : FileDataFields) where
  abbrev received : Received
  received = kept_with e.received piece.offset piece.octets

  abbrev new : Entry
  new = storing W.filestore e received

  abbrev V : World
  V = stores W k e received

  all_now : Each IsInOrder V.table
  all_now = changed_ordered W all k e at (Stages e.slot (staged_of received) ∷ []) new
      (record { metadata = refl; items = refl; counted = λ h. h; due = λ _. refl })

  there : slice_get V.table k ≡ Some new
  there = get_set_same W.table k new e at

  after_eof_ordered : (eof : Option Eof) → IsTrue (takes_data e.phase) → Ordered (after_eof eof V k new)
  after_eof_ordered None takes = all_now
  after_eof_ordered (Some eof) takes = cond_both (is_whole eof.size new.received) _ _ Ordered (λ _. whole_ordered V all_now k new there eof.checksum takes)
      (λ _. all_now)

  stored_ordered : (phase : Phase) → IsTrue (takes_data e.phase) → Ordered (stored phase V k new)
  stored_ordered (Awaiting checks) takes = after_eof_ordered e.eof takes
  stored_ordered Receiving takes = all_now
  stored_ordered (Executing n) takes = all_now
  stored_ordered Refused takes = all_now
  stored_ordered Done takes = all_now
  stored_ordered (Ended condition) takes = all_now

  data_ordered : Ordered (data_came W k piece (Some e))
  data_ordered =
      cond_both (takes_data e.phase) _ _ Ordered
      (λ takes. cond_both (length piece.octets == 0) _ _ Ordered (λ _. all)
      (λ _. cond_both (nat_lt (limit e.phase W.config e) (piece.offset + length piece.octets)) _ _ Ordered (λ _. ends_ordered W all k e at e 6 refl refl)
      (λ _. cond_both (nat_lt 32 (pieces received)) _ _ Ordered (λ _. all) (λ _. stored_ordered e.phase takes))))
      (λ _. all)

module _ (W : World) (all : Each IsInOrder W.table) where
  added_ordered : (new : Entry) → IsInOrder new → Each IsInOrder (with_new W new).table
  added_ordered new s = append_each (λ _ (d : Entry). IsInOrder d) W.table new s (λ j d here. all j d here)

  refused_ordered : (h : Header) (m : MetadataFields) (phase : Phase) → is_counted phase ≡ false → IsInOrder (refused_entry h m phase)
  refused_ordered h m phase final = record { paths = tt; following = refl; first = λ counted. absurd cc; due = λ counted. absurd cc }

  granted_ordered : (h : Header) (m : MetadataFields) (slot : ℕ) (items : List Item) (blocks steps : ℕ) → IsListed (has_file m) items →
      IsInOrder (new_entry h m Receiving slot items blocks steps)
  granted_ordered h m slot items blocks steps l = record {
    paths = l.paths;
    following = l.following;
    first = λ _. l.first;
    due = λ _. install_at_front items l.following ∙ l.first;
  }

  judged_ordered : (h : Header) (m : MetadataFields) (v : Verdict) → verdict W.config.prefixes W.filestore (leases_of W.table) (spare_blocks W)
      (proposal_of W.config m) ≡ v → Ordered (judged W h m v)
  judged_ordered h m (Refuse r) is = added_ordered (refused_entry h m Refused) (refused_ordered h m Refused refl)
  judged_ordered h m (Grant items blocks steps) is =
      added_ordered (new_entry h m Receiving (free_slot W.table) items blocks steps)
      (granted_ordered h m (free_slot W.table) items blocks steps (granted_listed W.config m W.config.prefixes W.filestore (leases_of W.table)
      (spare_blocks W) items blocks steps is))

  metadata_ordered : (h : Header) (m : MetadataFields) (o : Option Entry) → Ordered (metadata_came W h m o)
  metadata_ordered h m (Some e) = all
  metadata_ordered h m None =
      cond_both (nat_le 64 (length W.table)) _ _ Ordered (λ _. all)
      (λ _. cond_both (nat_lt 64 (length m.requests)) _ _ Ordered (λ _. all)
      (λ _. cond_both (has_file m && not (is_known_checksum m.checksum_type)) _ _ Ordered
      (λ _. added_ordered (refused_entry h m (Ended 11)) (refused_ordered h m (Ended 11) refl))
      (λ _. judged_ordered h m (verdict W.config.prefixes W.filestore (leases_of W.table) (spare_blocks W) (proposal_of W.config m)) refl)))

  found_ordered : (f : Option Entry → World × Reply) (k : ℕ) → Ordered (f None) → ((e : Entry) → slice_get W.table k ≡ Some e → Ordered (f (Some e))) →
      (o : Option Entry) → slice_get W.table k ≡ o → Ordered (f o)
  found_ordered f k unknown known None at = unknown
  found_ordered f k unknown known (Some e) at = known e at

  for_us_ordered : (h : Header) (a : World × Reply) → Ordered a → Ordered (for_us W h a)
  for_us_ordered h a s = cond_both (h.destination == W.config.entity) a _ Ordered (λ _. s) (λ _. all)

  pub next_ordered : (event : Event) → Each IsInOrder (next W event).0.table
  next_ordered (MetadataCame h m) = for_us_ordered h _ (metadata_ordered h m (entry_of W (id_of h)))
  next_ordered (DataCame h piece) =
      let k = index_of W (id_of h) in
      for_us_ordered h (data_came W k piece (entry_of W (id_of h))) (found_ordered (λ o. data_came W k piece o) k all (λ e at. data_ordered W all k e at piece)
      (entry_of W (id_of h)) refl)
  next_ordered (EofCame h eof) =
      let k = index_of W (id_of h) in
      for_us_ordered h (eof_came W k eof (entry_of W (id_of h))) (found_ordered (λ o. eof_came W k eof o) k all (λ e at. eof_ordered W all k e at eof)
      (entry_of W (id_of h)) refl)
  next_ordered (Step id) = let k = index_of W id in found_ordered (λ o. stepped W k o) k all (λ e at. step_ordered W all k e at e.phase refl)
      (entry_of W id) refl
  next_ordered (Cancel id) = let k = index_of W id in found_ordered (λ o. cancelled W k o) k all (λ e at. cancelled_ordered W all k e at) (entry_of W id) refl
  next_ordered (Check id) = let k = index_of W id in found_ordered (λ o. checked W k o) k all (λ e at. check_ordered W all k e at e.phase refl)
      (entry_of W id) refl
  next_ordered (Take id) = let k = index_of W id in found_ordered (λ o. taken_out W k o) k all (λ e at. taken_ordered W all k e at) (entry_of W id) refl

-- runs ---------------------------------------------------------------------------------

pub from_ordered : (W : World) (events : List Event) → Each IsInOrder W.table → Each IsInOrder (run W events).table
from_ordered W [] all = all
from_ordered W (event ∷ events) all = from_ordered (next W event).0 events (next_ordered W all event)

pub ordered_from : (c : Config) (F : Filestore) (events : List Event) → Each IsInOrder (run (start_with c F) events).table
ordered_from c F events = from_ordered (start_with c F) events (λ k e at. absurd cc)
