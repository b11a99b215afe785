-- What holds from each world to the next.
use Rattle.std.proofs.Common.{◌≡◌, ℕ, zero, suc, List, [], ◌∷◌, drop, ◌⊎◌, refl, ap, sym, ◌∙◌, append-nil}
use Rattle.cfdp_transactions.specs.Config.{Config}
use Rattle.std.specs.Prelude.{map, Option, Some, None, slice_get, true, not, IsTrue, IsFalse}
use Rattle.std.proofs.lemmas.Bool.{both_ways, and_parts, not-true}
use mathlib.Core.Logic.{inl, inr}
use Rattle.cfdp_status.specs.declared.status.Status.TheVariants.{Successful}
use Rattle.cfdp_status.specs.declared.transaction.TransactionId.{TransactionId}
use Rattle.cfdp_actions.specs.Filestore.{after}
use Rattle.cfdp_actions.specs.Actions.{Item, succeeded}
use Rattle.cfdp_tlv.specs.Values.{RequestFields, ResponseFields}
use Rattle.cfdp_transactions.specs.Entry.{Phase, Receiving, Awaiting, Executing, Refused, Done, Ended, is_executing, is_receiving, Entry}
use Rattle.cfdp_transactions.specs.Events.{Event, MetadataCame, DataCame, EofCame, Step, Cancel, Check, Take, Reply}
use Rattle.cfdp_transactions.specs.Outcome.{answered, responses_of}
use Rattle.cfdp_transactions.specs.World.{World, index_of, entry_of, change_at}
use Rattle.cfdp_transactions.specs.Execution.{act_now, replied, phase_before, entry_after, step_at, step_in, stepped}
use Rattle.cfdp_transactions.specs.Next.{next, is_done, completes}
use Rattle.cfdp_transactions.specs.code.LowerLaws.{LowerLaws}
use Rattle.cfdp_transactions.specs.Sound.{all_successful, IsHonest, Sound}
use Rattle.cfdp_transactions.specs.Headline.{IsPerformed, IsSuccessful, Promised, AtEach}
use Rattle.cfdp_transactions.proofs.Indexes.{set_cases, get_same}
use Rattle.cfdp_transactions.proofs.Finding.{found_name}
use Rattle.cfdp_transactions.proofs.Lookups.{set_own}
use Rattle.cfdp_transactions.proofs.Promises.Carried.{next_carried, next_others}
use Rattle.cfdp_transactions.proofs.Promises.Admissions.{next_admitted}
use Rattle.cfdp_transactions.proofs.Soundness.Stepping.{drop_next, enough, succeeded_now}
use Rattle.cfdp_transactions.proofs.Soundness.NextWorld.{next_sound, next_isolated}

-- done entries -----------------------------------------------------------------------

-- 'successful' for each request gives one such response for each
responses_all : (rs : List RequestFields) → responses_of rs (all_successful rs) ≡ map (λ r. answered r (Successful r.action)) rs
responses_all [] = refl
responses_all (r ∷ rs) = ap (λ (following : List ResponseFields). answered r (Successful r.action) ∷ following) (responses_all rs)

done_good : (c : Config) (e : Entry) → IsHonest c e → e.phase ≡ Done → IsSuccessful e
done_good c e honest is =
    let all : e.statuses ≡ all_successful e.metadata.requests = sym (append-nil e.statuses) ∙ (let h = honest.to_come (rw is refl) in rw is at h) in
    record { statuses = all; responses = rw all (responses_all e.metadata.requests) }

-- indexes -----------------------------------------------------------------------------

pub get_drop : {X : Type 0} (n : ℕ) (xs ys : List X) (x : X) → drop n xs ≡ x ∷ ys → slice_get xs n ≡ Some x
get_drop zero [] ys x h = absurd cc
get_drop zero (z ∷ xs) ys x h = cc
get_drop (suc n) [] ys x h = absurd cc
get_drop (suc n) (z ∷ xs) ys x h = get_drop n xs ys x h

-- steps ------------------------------------------------------------------------------

module _ (laws : LowerLaws) (W : World) (s : Sound W) where
  step_is : (k : ℕ) (e : Entry) (n : ℕ) (item : Item) (items : List Item) → slice_get W.table k ≡ Some e → e.phase ≡ Executing n → drop n e.items
      ≡ item ∷ items →
      stepped W k (Some e) ≡ (change_at W k (act_now W e item).changes (entry_after e n item items (act_now W e item)), replied (act_now W e item).answer)
  step_is k e n item items at is left =
      let good : succeeded (act_now W e item).answer ≡ true = rw (enough laws W s k e n item items at is left)
      (succeeded_now laws W s k e n item items at is left) in
      rw (is, left, good) refl

  performed_now : (id : TransactionId) (e : Entry) (n : ℕ) → entry_of W id ≡ Some e → e.phase ≡ Executing n → (left : List Item) → drop n e.items ≡ left →
      IsPerformed W id e n
  performed_now id e n found is [] left = absurd ((s.live (index_of W id) e found (rw is refl)).more (rw is refl) (rw is left))
  performed_now id e n found is (item ∷ items) left =
      let step = step_is (index_of W id) e n item items found is left in
      let o = act_now W e item in
      let after_it = entry_after e n item items o in
      let world : (next W (Step id)).0 ≡ change_at W (index_of W id) o.changes after_it = rw found (ap (λ (a : World × Reply). a.0) step) in
      record {
        item = item;
        is_next = get_drop n e.items items item left;
        succeeds = rw (enough laws W s (index_of W id) e n item items found is left) (succeeded_now laws W s (index_of W id) e n item items found is left);
        filestore = rw found (ap (λ (a : World × Reply). a.0.filestore) step);
        reply = rw found (ap (λ (a : World × Reply). a.1) step);
        now = after_it;
        here = rw world (set_own W.table id e after_it (found_name W.table id e found) found);
        statuses = refl;
        steps = refl;
        blocks = refl;
        installed = refl;
        phase = rw (drop_next n e.items items item left) refl;
      }

  -- an entry after a step is as it was, or is that of the step, done or executing
  abbrev AfterStep : TransactionId → ℕ → Entry → Type 0
  AfterStep id j now = (slice_get W.table j ≡ Some now) ⊎ ((n : ℕ) × (items : List Item) × (now.phase ≡ phase_before n items))

  after_items : (id : TransactionId) (e : Entry) (n : ℕ) (j : ℕ) (now : Entry) → entry_of W id ≡ Some e → e.phase ≡ Executing n → (left : List Item) →
      drop n e.items ≡ left →
      slice_get (step_at W (index_of W id) e n left).0.table j ≡ Some now → AfterStep id j now
  after_items id e n j now found is [] left h = inl h
  after_items id e n j now found is (item ∷ items) left h =
      let k = index_of W id in
      let o = act_now W e item in
      let good : succeeded o.answer ≡ true = rw (enough laws W s k e n item items found is left) (succeeded_now laws W s k e n item items found is left) in
      let h' = rw good at h in
      elim (set_cases W.table k (entry_after e n item items o) j now h')
      [ inl here ↦ inr (suc n, items, ap (λ (d : Entry). d.phase) here.1) | inr other ↦ inl other.1 ]

  after_phase : (id : TransactionId) (e : Entry) (j : ℕ) (now : Entry) → entry_of W id ≡ Some e → (phase : Phase) → e.phase ≡ phase →
      slice_get (step_in phase W (index_of W id) e).0.table j ≡ Some now → AfterStep id j now
  after_phase id e j now found (Executing n) is h = after_items id e n j now found is (drop n e.items) refl h
  after_phase id e j now found Receiving is h = inl h
  after_phase id e j now found (Awaiting checks) is h = inl h
  after_phase id e j now found Refused is h = inl h
  after_phase id e j now found Done is h = inl h
  after_phase id e j now found (Ended condition) is h = inl h

  after_found : (id : TransactionId) (j : ℕ) (now : Entry) (o : Option Entry) → entry_of W id ≡ o → slice_get (stepped W (index_of W id) o).0.table j
      ≡ Some now → AfterStep id j now
  after_found id j now None found h = inl h
  after_found id j now (Some e) found h = after_phase id e j now found e.phase refl h

  after_step : (id : TransactionId) (j : ℕ) (now : Entry) → slice_get (next W (Step id)).0.table j ≡ Some now → AfterStep id j now
  after_step id j now h = after_found id j now (entry_of W id) refl h

  not_ended : (n : ℕ) (items : List Item) (condition : ℕ) → phase_before n items ≡ Ended condition → ⊥
  not_ended n [] condition h = cc
  not_ended n (item ∷ items) condition h = cc

  ends_none : (id : TransactionId) (condition : ℕ) (j : ℕ) (now : Entry) → slice_get (next W (Step id)).0.table j ≡ Some now → now.phase ≡ Ended condition →
      slice_get W.table j ≡ Some now
  ends_none id condition j now h ended = elim (after_step id j now h) [ inl same ↦ same | inr p ↦ absurd (not_ended p.0 p.1 condition (sym p.2 ∙ ended)) ]

  -- completion -----------------------------------------------------------------------

  done_before : (n : ℕ) (items : List Item) → IsFalse (is_executing (phase_before n items)) → phase_before n items ≡ Done
  done_before n [] h = refl
  done_before n (item ∷ items) h = absurd cc

  step_completes : (id : TransactionId) (k : ℕ) (e now : Entry) → slice_get W.table k ≡ Some e → slice_get (next W (Step id)).0.table k ≡ Some now →
      IsTrue (is_executing e.phase) → IsFalse (is_executing now.phase) → now.phase ≡ Done
  step_completes id k e now at h before after = elim (after_step id k now h) [
    | inl same ↦ let q : now ≡ e = get_same W.table k k now e same at refl in absurd (both_ways (is_executing e.phase) (rw q at after) before)
    | inr p ↦ p.2 ∙ done_before p.0 p.1 (rw p.2 at after)
  ]

  is_done_done : (phase : Phase) → IsTrue (is_done phase) → phase ≡ Done
  is_done_done Done h = refl
  is_done_done Receiving h = absurd cc
  is_done_done (Awaiting checks) h = absurd cc
  is_done_done (Executing next) h = absurd cc
  is_done_done Refused h = absurd cc
  is_done_done (Ended condition) h = absurd cc

  completes_done : (event : Event) (k : ℕ) (e now : Entry) → slice_get W.table k ≡ Some e → slice_get (next W event).0.table k ≡ Some now →
      IsTrue (completes event e.phase now.phase) → now.phase ≡ Done
  completes_done (Step id) k e now at h c = let p = and_parts (is_executing e.phase) (not (is_executing now.phase)) c in
      step_completes id k e now at h p.0 (not-true _ p.1)
  completes_done (EofCame header eof) k e now at h c = is_done_done now.phase (and_parts (is_receiving e.phase) (is_done now.phase) c).1
  completes_done (MetadataCame header m) k e now at h c = absurd cc
  completes_done (DataCame header piece) k e now at h c = absurd cc
  completes_done (Cancel id) k e now at h c = absurd cc
  completes_done (Check id) k e now at h c = absurd cc
  completes_done (Take id) k e now at h c = absurd cc

  pub next_promised : (event : Event) → Promised W event
  next_promised event =
      let sound = next_sound laws W s event in
      record {
        admitted = next_admitted W event;
        carried = next_carried laws W s event;
        others = next_others laws W s event;
        performed = λ id e n is found executing. performed_now id e n found executing (drop n e.items) refl;
        completed = λ k e now at h name c. done_good (next W event).0.config now (sound.honest k now h) (completes_done event k e now at h c);
        done = λ k e at is. done_good (next W event).0.config e (sound.honest k e at) is;
        step_ends_none = λ id condition is k e at ended. ends_none id condition k e (rw is at at) ended;
        within = λ k e at. record { blocks = (sound.honest k e at).blocks; steps = (sound.honest k e at).steps };
        isolated = next_isolated laws W s event;
      }

-- runs -------------------------------------------------------------------------------

pub at_each : (laws : LowerLaws) (W : World) (events : List Event) → Sound W → AtEach Sound Promised W events
at_each laws W [] s = s
at_each laws W (event ∷ events) s = (s, next_promised laws W s event, at_each laws (next W event).0 events (next_sound laws W s event))
