-- A Step of an entry in Executing performs its next item as the action table says, and keeps the world sound.
use Rattle.std.proofs.Common.{◌≡◌, ◌≢◌, ℕ, zero, suc, ◌+◌, ◌<◌, ◌≤◌, List, [], ◌∷◌, ◌++◌, length, drop, refl, ap, sym, ◌∙◌, arith, append_assoc, length-append}
use Rattle.std.specs.Prelude.{true, Some, slice_get, IsTrue, IsFalse, if◌then◌else◌}
use Rattle.std.specs.List.{AllByRecursion}
use Rattle.std.proofs.lemmas.List.{nil_from_length}
use Rattle.cfdp_status.proofs.Appended.{all-append}
use Rattle.cfdp_status.specs.declared.status.Status.{Status}
use Rattle.cfdp_status.specs.declared.status.Status.TheVariants.{Successful}
use Rattle.cfdp_status.specs.Codes.{is_successful}
use Rattle.cfdp_paths.specs.Paths.{Path}
use Rattle.cfdp_actions.specs.Filestore.{Filestore, staged_in, blocks}
use Rattle.cfdp_actions.specs.Actions.{action_in, Item, Install, Perform, Answer, succeeded, Outcome, ticks, row, act_item}
use Rattle.cfdp_leases.specs.Items.{performed, step_bound}
use Rattle.cfdp_states.specs.Alone.{Succeed, steps, need, stage}
use Rattle.cfdp_transactions.specs.Config.{Config}
use Rattle.cfdp_transactions.specs.Received.{Received, staged_of, pieces}
use Rattle.cfdp_transactions.specs.Entry.{Executing, is_live, Entry, items_left, rest, footprint, blocks_left, reserve}
use Rattle.cfdp_transactions.specs.World.{World, free, change_at}
use Rattle.cfdp_transactions.specs.Execution.{is_install, noted, phase_before, entry_after}
use Rattle.cfdp_transactions.specs.code.LowerLaws.{LowerLaws}
use Rattle.cfdp_transactions.specs.Sound.{longest, is_next_install, requests_in, successes, all_successful, IsKept, IsHonest, Sound}
use Rattle.cfdp_transactions.proofs.Balance.{spend_within, left-spend, spend-grown}
use Rattle.cfdp_transactions.proofs.SlotChanges.{after-slots}
use Rattle.cfdp_transactions.proofs.Soundness.RowAnswers.{HasStatus, HasNone, row_of_request, row_of_install, row_in_slot, install_empties, request_keeps_staged}
use Rattle.cfdp_transactions.proofs.Soundness.OwnStatuses.{own_row, begins}
use Rattle.cfdp_transactions.proofs.Soundness.LeftAlone.{rest_within}
use Rattle.cfdp_transactions.proofs.Soundness.OwnChange.{MovesTo, change_moves, reserve_within}
use Rattle.cfdp_transactions.proofs.Soundness.Turning.{reserve_live, live_counted, length-staged_of}
use Rattle.cfdp_transactions.proofs.Soundness.Storing.{stage-same}

pub drop_next : {X : Type 0} (n : ℕ) (xs ys : List X) (x : X) → drop n xs ≡ x ∷ ys → drop (suc n) xs ≡ ys
drop_next zero [] ys x h = absurd cc
drop_next zero (z ∷ xs) ys x h = cc
drop_next (suc n) [] ys x h = absurd cc
drop_next (suc n) (z ∷ xs) ys x h = drop_next n xs ys x h

-- statuses ------------------------------------------------------------------------

pub noted_none : (ss : List Status) (answer : Answer) → HasNone answer → noted ss answer ≡ ss
noted_none ss (Answer.Performed status) h = elim h [ ]
noted_none ss Answer.Installed h = refl
noted_none ss Answer.NotInstalled h = refl

pub noted_one : (ss : List Status) (answer : Answer) → HasStatus answer → length (noted ss answer) ≡ length ss + 1
noted_one ss (Answer.Performed status) h = length-append ss (status ∷ [])
noted_one ss Answer.Installed h = elim h [ ]
noted_one ss Answer.NotInstalled h = elim h [ ]

-- one more for a request, none for the install
noted_counts : (prefixes : List Path) (F : Filestore) (slot : ℕ) (item : Item) (items : List Item) (ss : List Status) →
    length (noted ss (row prefixes F slot item).answer) + requests_in items ≡ length ss + requests_in (item ∷ items)
noted_counts prefixes F slot (Install p) items ss = rw (noted_none ss _ (row_of_install prefixes F slot p).answer) refl
noted_counts prefixes F slot (Perform request) items ss = omega (arith, noted_one ss _ (row_of_request prefixes F slot request).answer)

-- 'successful' of its own action, at its index
noted_in_order : (prefixes : List Path) (F : Filestore) (slot : ℕ) (item : Item) (items : List Item) (ss : List Status) →
    IsTrue (succeeded (row prefixes F slot item).answer) →
    noted ss (row prefixes F slot item).answer ++ successes items ≡ ss ++ successes (item ∷ items)
noted_in_order prefixes F slot (Install p) items ss good = rw (noted_none ss _ (row_of_install prefixes F slot p).answer) refl
noted_in_order prefixes F slot (Perform request) items ss good = rw (own_row prefixes F slot request good)
    (append_assoc ss (Successful (action_in request) ∷ []) (successes items))

noted_successful : (ss : List Status) (answer : Answer) → AllByRecursion (λ x. IsTrue (is_successful x)) ss → IsTrue (succeeded answer) →
    AllByRecursion (λ x. IsTrue (is_successful x)) (noted ss answer)
noted_successful ss (Answer.Performed status) h good = all-append _ ss (status ∷ []) h (good, tt)
noted_successful ss Answer.Installed h good = h
noted_successful ss Answer.NotInstalled h good = h

-- what is staged ------------------------------------------------------------------

-- nothing is, once the file is installed
pub record IsGone (F : Filestore) (slot : ℕ) (received : Received) : Type 0 where
  pub staged : staged_in F slot ≡ staged_of received
  pub none : length received ≡ 0
  pub few : pieces received ≤ 32

staged_after : (prefixes : List Path) (F : Filestore) (slot : ℕ) (received : Received) (item : Item) (items : List Item) → slot < length F.staged →
    staged_in F slot ≡ staged_of received →
    IsTrue (succeeded (row prefixes F slot item).answer) → (IsFalse (is_next_install (item ∷ items)) → length received ≡ 0) →
    IsGone (performed prefixes F slot item) slot (if is_install item then [] else received)
staged_after prefixes F slot received (Install p) items inside there good nothing =
    record { staged = install_empties prefixes F slot p inside good; none = refl; few = omega arith }
staged_after prefixes F slot received (Perform request) items inside there good nothing =
    record {
      staged = request_keeps_staged prefixes F slot slot request ∙ there;
      none = nothing refl;
      few = rw (nil_from_length received (nothing refl)) (omega arith);
    }

live_before : (n : ℕ) (items : List Item) → IsTrue (is_live (phase_before n items)) → (items ≢ []) × (phase_before n items ≡ Executing n)
live_before n [] h = absurd cc
live_before n (item ∷ items) h = ((λ q. absurd cc), refl)

rest_before : (n : ℕ) (items following : List Item) → drop n items ≡ following → items_left (phase_before n following) items ≡ following
rest_before n items [] h = refl
rest_before n items (item ∷ following) h = h

first_succeeds : (prefixes : List Path) (F : Filestore) (slot : ℕ) (item : Item) (items : List Item) → Succeed prefixes F slot (item ∷ items) →
    IsTrue (succeeded (row prefixes F slot item).answer)
unfolding Succeed
first_succeeds prefixes F slot item items h = h.0

rest_succeeds : (prefixes : List Path) (F : Filestore) (slot : ℕ) (item : Item) (items : List Item) → Succeed prefixes F slot (item ∷ items) →
    Succeed prefixes (performed prefixes F slot item) slot items
unfolding Succeed
rest_succeeds prefixes F slot item items h = h.1

module _ (laws : LowerLaws) (W : World) (s : Sound W) (k : ℕ) (e : Entry) (n : ℕ) (item : Item) (items : List Item)
    (at : slice_get W.table k ≡ Some e) (executing : e.phase ≡ Executing n) (left : drop n e.items ≡ item ∷ items) where
  abbrev c : Config
  c = W.config

  abbrev F : Filestore
  F = W.filestore

  abbrev o : Outcome
  o = row c.prefixes F e.slot item

  abbrev G : Filestore
  G = performed c.prefixes F e.slot item

  abbrev new : Entry
  new = entry_after e n item items o

  live : IsTrue (is_live e.phase)
  live = rw executing refl

  kept : IsKept c F e
  kept = s.live k e at live

  pub rest_is : rest e ≡ item ∷ items
  rest_is = rw executing left

  longest_is : longest c e ≡ staged_of e.received
  longest_is = rw executing refl

  -- what is staged is what will be delivered
  staged_there : stage F e.slot (longest c e) ≡ F
  staged_there = stage-same F e.slot (longest c e) (kept.staged ∙ sym longest_is)

  succeed : Succeed c.prefixes F e.slot (item ∷ items)
  succeed = let h = kept.promise.succeeds in rw (staged_there, rest_is) at h

  room : need c.prefixes F e.slot (item ∷ items) ≤ blocks_left e.blocks_granted e.blocks_spent
  room = let h = kept.promise.blocks in rw (staged_there, rest_is) at h

  steps_left : steps c.prefixes F e.slot (item ∷ items) + e.steps_spent ≤ e.steps_granted
  steps_left = let h = kept.promise.steps in rw (staged_there, rest_is) at h

  -- the row is what is done
  pub enough : act_item c.prefixes F (free W) e.slot item ≡ o
  enough = laws.enough_room c.prefixes F (free W) e.slot item items s.rooted kept.slot
      (omega (arith, room, s.room, reserve_within W.table k e at, reserve_live e live))

  pub succeeded_now : IsTrue (succeeded o.answer)
  succeeded_now = let h : Succeed c.prefixes F e.slot (item ∷ items) = succeed in first_succeeds c.prefixes F e.slot item items h

  own : (need c.prefixes G e.slot items + o.taken ≤ need c.prefixes F e.slot (item ∷ items) + o.given)
      × (steps c.prefixes F e.slot (item ∷ items) ≡ (1 + step_bound F item) + steps c.prefixes G e.slot items) × (ticks o ≤ step_bound F item)
  own = laws.own_step c.prefixes F e.slot item items s.rooted kept.slot

  pub takes_within : o.taken ≤ blocks_left e.blocks_granted e.blocks_spent + o.given
  takes_within = omega (arith, own.0, room)

  pub steps_within : e.steps_spent + (1 + ticks o) ≤ e.steps_granted
  steps_within = omega (arith, own.1, own.2, steps_left)

  pub gone : IsGone G e.slot new.received
  gone = staged_after c.prefixes F e.slot e.received item items kept.slot kept.staged succeeded_now
      (λ h. omega (arith, kept.fits, kept.nothing (rw rest_is h)))

  inside : e.slot < length G.staged
  inside = rw (after-slots F o.changes) kept.slot

  rest_now : rest new ≡ items
  rest_now = rest_before (suc n) e.items items (drop_next n e.items items item left)

  kept_now : IsTrue (is_live new.phase) → IsKept c G new
  kept_now live_now =
      let b = live_before (suc n) items live_now in
      let longest_now : longest c new ≡ staged_of new.received = rw b.1 refl in
      let there : stage G e.slot (longest c new) ≡ G = stage-same G e.slot (longest c new) (gone.staged ∙ sym longest_now) in
      let honest = s.honest k e at in
      record {
        slot = inside;
        staged = gone.staged;
        fits = rw longest_now (omega (arith, length-staged_of new.received));
        nothing = λ _. rw longest_now (length-staged_of new.received ∙ gone.none);
        more = λ _. rw rest_now b.0;
        pieces = gone.few;
        eof = λ waiting. absurd (let w = rw b.1 at waiting in cc);
        checks = rw b.1 (omega arith);
        promise = record {
          succeeds = rw (there, rest_now) (rest_succeeds c.prefixes F e.slot item items succeed);
          blocks = rw (there, rest_now) (omega (arith, own.0, room, left-spend e.blocks_granted e.blocks_spent o.taken o.given honest.blocks takes_within));
          steps = rw (there, rest_now) (omega (arith, own.1, own.2, steps_left));
        };
      }

  pub honest_now : IsHonest c new
  honest_now =
      let honest = s.honest k e at in
      let in_order : new.statuses ++ successes items ≡ all_successful e.metadata.requests =
      noted_in_order c.prefixes F e.slot item items e.statuses succeeded_now ∙ (rw rest_is at (honest.to_come (live_counted e.phase live))) in
      let counted : length new.statuses + requests_in items ≡ length e.metadata.requests = noted_counts c.prefixes F e.slot item items e.statuses
      ∙ (rw rest_is at (honest.counted (live_counted e.phase live))) in
      record {
        blocks = spend_within e.blocks_granted e.blocks_spent o.taken o.given honest.blocks takes_within;
        steps = omega (arith, own.1, own.2, steps_left);
        limits = honest.limits;
        no_more = omega (arith, counted);
        statuses = noted_successful e.statuses o.answer honest.statuses succeeded_now;
        in_order = begins new.statuses (successes items) (all_successful e.metadata.requests) in_order;
        to_come = λ _. rw rest_now in_order;
        counted = λ _. rw rest_now counted;
      }

  room_now : blocks G + blocks_left new.blocks_granted new.blocks_spent ≤ blocks F + reserve e
  room_now =
      rw live (omega (
        arith,
        left-spend e.blocks_granted e.blocks_spent o.taken o.given (s.honest k e at).blocks takes_within,
        laws.growth c.prefixes F e.slot item s.rooted kept.slot,
      ))

  pub step_moves : MovesTo true k e new W (change_at W k o.changes new)
  step_moves = change_moves laws W s true k e o.changes new (record {
    at = at;
    live = live;
    isolated = λ fp apart. laws.isolation c.prefixes (footprint e) fp F e.slot item (let w = rw rest_is at (rest_within laws e) in w.0) apart;
    in_slot = row_in_slot c.prefixes F e.slot item;
    slot = refl;
    carried = record {
      header = refl;
      metadata = refl;
      items = refl;
      blocks_granted = refl;
      steps_granted = refl;
      blocks_spent = spend-grown e.blocks_spent o.taken o.given (blocks F) (blocks G) (laws.growth c.prefixes F e.slot item s.rooted kept.slot);
      steps_spent = λ no. absurd cc;
      statuses = λ no. absurd cc;
    };
    rooted = laws.stays_rooted c.prefixes F e.slot item s.rooted;
    kept = kept_now;
    emptied = λ _. gone.staged ∙ ap staged_of (nil_from_length new.received gone.none);
    honest = honest_now;
    room = room_now;
  })
