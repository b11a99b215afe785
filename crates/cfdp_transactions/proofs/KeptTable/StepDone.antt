-- The program's table, leases and quota after an item of a live transaction was performed.
use Rattle.std.proofs.Common.{◌≡◌, ◌≢◌, ℕ, zero, suc, ◌+◌, ◌-◌, ◌≤◌, ◌<◌, List, [], ◌∷◌, length, drop, take, refl, ap, sym, ◌∙◌, arith}
use Rattle.std.proofs.lemmas.List.{length-drop, length-take, length-map, nil_from_length}
use Rattle.std.specs.Prelude.{Bool, true, false, ◌||◌, ◌==◌, ℤ, Some, None, slice_get, slice_set, IsTrue, IsFalse, if◌then◌else◌}
use Rattle.std.proofs.lemmas.Bool.Decides.{nat_tests}
use Rattle.std.proofs.lemmas.Option.{slice_get_within}
use Rattle.cfdp_status.specs.declared.status.Status.{Status}
use Rattle.cfdp_status.specs.declared.status.Status.TheVariants.{Successful}
use Rattle.cfdp_paths.specs.Paths.{Path}
use Rattle.cfdp_tlv.specs.Values.{RequestFields}
use Rattle.cfdp_actions.specs.Filestore.{Filestore, staged_in, blocks, after}
use Rattle.cfdp_actions.specs.Actions.{Item, Install, Perform, succeeded, Outcome, ticks, row, act_item}
use Rattle.cfdp_actions.specs.Store.{Store, free_blocks, with_changes}
use Rattle.cfdp_quota.specs.Budget.{Budget, entry_at, reserve_at, spare, used, closing}
use Rattle.cfdp_leases.specs.Leases.{without_grant}
use Rattle.cfdp_transactions.specs.Received.{Received, staged_of}
use Rattle.cfdp_transactions.specs.Pieces.{received_in}
use Rattle.cfdp_transactions.specs.Entry.{Phase, Executing, Done, is_live, Entry, reserve, blocks_left, spend}
use Rattle.cfdp_transactions.specs.Execution.{is_install, noted, phase_before, entry_after, replied, stepped}
use Rattle.cfdp_transactions.specs.Events.{Reply}
use Rattle.cfdp_transactions.specs.World.{World, free, change_at}
use Rattle.cfdp_transactions.specs.code.LowerLaws.{LowerLaws}
use Rattle.cfdp_transactions.specs.Sound.{requests_in, all_successful, Sound}
use Rattle.cfdp_transactions.specs.code.TableEntries.{TableEntryFields, received_by, entry_in, kept_name, entry_stepped}
use Rattle.cfdp_transactions.specs.code.Books.{IsBooked, BooksSlot, ArePiecesIn, AnswersAt, world_of}
use Rattle.cfdp_transactions.specs.code.TableChanges.{CanAdvance}
use Rattle.cfdp_transactions.specs.declared.books.Books.{Books}
use Rattle.cfdp_transactions.proofs.Soundness.OwnChange.{reserve_within}
use Rattle.cfdp_transactions.proofs.KeptTable.Answering.{carry, answered_reply, entry_is}
use Rattle.cfdp_transactions.proofs.KeptTable.Accounts.{Adjusts}
use Rattle.cfdp_transactions.proofs.Balance.{left-spend, spend-free}
use Rattle.cfdp_transactions.proofs.KeptTable.Budgets.{closed_here, closed_elsewhere, reserve_is}
use Rattle.cfdp_transactions.proofs.Soundness.RowAnswers.{row_of_request, row_of_install, row_in_slot}
use Rattle.cfdp_transactions.proofs.KeptTable.EntryChanged.{entry_at_k, kept_entry, least_spent, most_spent, reserve_open, in_use, table_now, booked_now}
use Rattle.cfdp_transactions.proofs.Soundness.Stepping.{noted_none, noted_one, enough, succeeded_now, takes_within, steps_within, gone, honest_now, rest_is}
use Rattle.cfdp_transactions.proofs.Soundness.Turning.{live_counted, reserve_live}

pub drop_get : {X : Type 0} (n : ℕ) (xs : List X) (x : X) → slice_get xs n ≡ Some x → drop n xs ≡ x ∷ drop (suc n) xs
drop_get n [] x h = absurd cc
drop_get zero (y ∷ xs) x h = let q : y ≡ x = cc in rw q refl
drop_get (suc n) (y ∷ xs) x h = drop_get n xs x h

-- the last item, and what is after it
following_last : (n : ℕ) (items : List Item) (last : Bool) → (IsTrue last → length items ≡ 0) → (IsFalse last → length items ≢ 0) →
    (if last then Done else Executing (suc n)) ≡ phase_before (suc n) items
following_last n [] true all some = refl
following_last n [] false all some = absurd (some refl refl)
following_last n (item ∷ items) true all some = absurd (let h = all refl in omega arith)
following_last n (item ∷ items) false all some = refl

-- the statuses, as a number of them
statuses_after : (prefixes : List Path) (F : Filestore) (slot : ℕ) (it : Item) (p : ℕ) (all : List Status) →
    noted (take p all) (row prefixes F slot it).answer ≡ take (length (noted (take p all) (row prefixes F slot it).answer)) all →
    (is_install it ≡ false → p < length all) → noted (take p all) (row prefixes F slot it).answer ≡ take (if is_install it then p else suc p) all
statuses_after prefixes F slot (Install q) p all order below = noted_none (take p all) _ (row_of_install prefixes F slot q).answer
statuses_after prefixes F slot (Perform request) p all order below =
    let n = noted_one (take p all) _ (row_of_request prefixes F slot request).answer in
    let few = below refl in
    let count : length (noted (take p all) (row prefixes F slot (Perform request)).answer) ≡ suc p = omega (arith, n, length-take p all) in
    order ∙ ap (λ (m : ℕ). take m all) count

-- the install counts for no request
counted_request : (it : Item) (items : List Item) → is_install it ≡ false → requests_in (it ∷ items) ≡ suc (requests_in items)
counted_request (Install p) items h = absurd cc
counted_request (Perform request) items h = refl

both_none : (b : Bool) (xs : List ℕ) → xs ≡ [] → (if b then received_in [] xs else []) ≡ []
both_none true xs is = rw is refl
both_none false xs is = refl

module _ (laws : LowerLaws) (s : Store) (b : Books) (sound : Sound (world_of s b)) (booked : IsBooked s b) (k : ℕ) (r : TableEntryFields)
    (at : slice_get b.table k ≡ Some r)
    (n : ℕ) (executing : r.phase ≡ Executing n) (item : Item) (there : slice_get r.items n ≡ Some item) where
  abbrev F : Filestore
  F = s.filestore

  abbrev W : World
  W = world_of s b

  abbrev e : Entry
  e = entry_in F r

  abbrev items : List Item
  items = drop (suc n) r.items

  abbrev o : Outcome
  o = row b.config.prefixes F r.slot item

  abbrev G : Filestore
  G = after F o.changes

  left : drop n r.items ≡ item ∷ items
  left = drop_get n r.items item there

  live : IsTrue (is_live r.phase)
  live = rw executing refl

  at_k : slice_get W.table k ≡ Some e
  at_k = entry_at_k s b sound booked k r at live

  same_free : free_blocks s ≡ free W
  same_free = rw booked.capacity refl

  pub done_as : act_item b.config.prefixes F (free_blocks s) r.slot item ≡ o
  done_as = rw same_free (enough laws W sound k e n item items at_k executing left)

  pub succeeds : IsTrue (succeeded (act_item b.config.prefixes F (free_blocks s) r.slot item).answer)
  succeeds = rw done_as (succeeded_now laws W sound k e n item items at_k executing left)

  -- blocks
  grown : blocks G + o.given ≡ blocks F + o.taken
  grown = laws.growth b.config.prefixes F r.slot item sound.rooted (kept_entry s b sound booked k r at live).slot

  takes : o.taken ≤ blocks_left r.blocks_granted r.blocks_spent + o.given
  takes = takes_within laws W sound k e n item items at_k executing left

  reserve_now : reserve e ≡ blocks_left r.blocks_granted r.blocks_spent
  reserve_now = reserve_live e live

  pub opened : entry_at b.quota r.slot ≡ Some (reserve_at b.quota r.slot)
  opened = let h = reserve_open s b sound booked k r at live in h ∙ ap (λ (m : ℕ). Some m) (sym (reserve_is b.quota r.slot (reserve e) h))

  in_reserve : reserve_at b.quota r.slot ≡ reserve e
  in_reserve = reserve_is b.quota r.slot (reserve e) (reserve_open s b sound booked k r at live)

  pub free_before : free_blocks s ≡ b.quota.free
  free_before = same_free ∙ sym booked.budget.not_used

  room_after : blocks G ≤ b.config.blocks
  room_after = omega (arith, grown, takes, reserve_now, sound.room, reserve_within W.table k e at_k)

  pub taken_within : free_blocks s ≤ free_blocks (with_changes s o.changes) + reserve_at b.quota r.slot
  taken_within = omega (arith, grown, takes, reserve_now, in_reserve)

  pub given_within : free_blocks (with_changes s o.changes) ≤ free_blocks s + used b.quota
  given_within = omega (arith, in_use s b sound booked k r at live, sound.room, booked.capacity)

  -- counters
  number_below : n < length r.items
  number_below = slice_get_within r.items n item there

  pub few_items : length r.items < 256
  few_items = let h = (sound.honest k e at_k).limits in omega (arith, h.of_items, h.of_requests)

  pub next_below : n < 255
  next_below = let h = (sound.honest k e at_k).limits in omega (arith, number_below, h.of_items, h.of_requests)

  requests_left : is_install item ≡ false → r.performed < length r.metadata.requests
  requests_left h =
      let counted = (sound.honest k e at_k).counted (live_counted r.phase live) in
      let rest = rest_is laws W sound k e n item items at_k executing left in
      let more = rw (rest, counted_request item items h) at counted in
      omega (
        arith,
        more,
        length-take r.performed (all_successful r.metadata.requests),
        length-map r.metadata.requests (λ (q : RequestFields). Successful q.action),
      )

  pub can_advance : (t : ℕ) (install : Bool) → t ≡ ticks o → install ≡ is_install item → CanAdvance r install t
  can_advance t install is_t is_i = record {
    performed = λ h. let h2 = (sound.honest k e at_k).limits in omega (arith, requests_left (sym is_i ∙ h), h2.of_requests);
    steps = rw is_t (steps_within laws W sound k e n item items at_k executing left);
    least = least_spent s b sound booked k r at live;
    most = most_spent s b sound booked k r at live;
  }

  module _ (before later t : ℕ) (last install : Bool) (is_before : before ≡ free_blocks s) (is_later : later ≡ free_blocks (with_changes s o.changes)) (is_t : t
      ≡ ticks o)
      (is_i : install ≡ is_install item) (is_last : last ≡ (suc n == length r.items)) where
    abbrev now : TableEntryFields
    now = entry_stepped r n last install before later t

    abbrev V : World
    V = change_at W k o.changes (entry_in G now)

    abbrev built : Phase → Bool → Received → List Status → ℤ → ℕ → Entry
    built phase installed received statuses spent steps =
        record e { phase = phase; installed = installed; received = received; statuses = statuses; blocks_spent = spent; steps_spent = steps }

    built_same : (p q : Phase) (i j : Bool) (a c : Received) (u v : List Status) (x y : ℤ) (m l : ℕ) → p ≡ q → i ≡ j → a ≡ c → u ≡ v → x ≡ y → m ≡ l →
        built p i a u x m ≡ built q j c v y l
    built_same p q i j a c u v x y m l e1 e2 e3 e4 e5 e6 = rw (e1, e2, e3, e4, e5, e6) refl

    none_staged : staged_in G r.slot ≡ []
    none_staged = let g = gone laws W sound k e n item items at_k executing left in g.staged ∙ ap staged_of (nil_from_length _ g.none)

    spent_same : spend r.blocks_spent before later ≡ spend r.blocks_spent o.taken o.given
    spent_same = spend-free r.blocks_spent before later o.taken o.given (rw (is_before, is_later)
        (omega (arith, grown, sound.room, booked.capacity, room_after)))

    entry_now : entry_in G now ≡ entry_after e n item items o
    entry_now =
        let g = gone laws W sound k e n item items at_k executing left in
        let following = length-drop (suc n) r.items in
        let received = both_none (is_live now.phase) (staged_in G r.slot) none_staged ∙ sym (nil_from_length _ g.none) in
        let all : IsTrue last → length items ≡ 0 = λ h. let q : (suc n == length r.items) ≡ true = sym is_last ∙ h in grind (arith, nat_tests, following) in
        let some : IsFalse last → length items ≢ 0 = λ h z. let q : (suc n == length r.items) ≡ false = sym is_last ∙ h in
        grind (arith, nat_tests, following, number_below) in
        let statuses = sym (statuses_after b.config.prefixes F r.slot item r.performed (all_successful r.metadata.requests)
        (honest_now laws W sound k e n item items at_k executing left).in_order
        (λ h. omega (arith, requests_left h, length-map r.metadata.requests (λ (q : RequestFields). Successful q.action)))) in
        let noted_same : take (if install then r.performed else suc r.performed) (all_successful r.metadata.requests) ≡ noted e.statuses o.answer =
        rw is_i statuses in
        built_same now.phase (phase_before (suc n) items) now.installed (e.installed || is_install item) (received_by G now) (if is_install item then []
        else e.received)
        (take now.performed (all_successful r.metadata.requests)) (noted e.statuses o.answer) now.blocks_spent
        (spend r.blocks_spent o.taken o.given) now.steps_spent (e.steps_spent + (1 + ticks o))
        (following_last n items last all some) (ap (λ (x : Bool). r.installed || x) is_i) received noted_same spent_same
        (ap (λ (x : ℕ). r.steps_spent + (1 + x)) is_t)

    pub stepped_world : world_of (with_changes s o.changes) (record b { table = slice_set b.table k now })
        ≡ change_at W k o.changes (entry_after e n item items o)
    stepped_world = rw (table_now s b sound booked k r at live o.changes (row_in_slot b.config.prefixes F r.slot item) now, entry_now) refl

    pieces_now : ArePiecesIn G now
    pieces_now alive = rw none_staged (record { pieces = record { runs = tt; within = tt }; to_end = refl })

    left_now : blocks_left r.blocks_granted now.blocks_spent + before ≡ reserve e + later
    left_now =
        let honest = sound.honest k e at_k in
        let h = left-spend r.blocks_granted r.blocks_spent before later honest.blocks
        (rw (is_before, is_later) (omega (arith, taken_within, in_reserve, reserve_now))) in
        omega (arith, h, reserve_now)

    module _ (p : Budget) (booking : BooksSlot b.quota p r.slot before later) where
      more_free : p.free ≡ free V
      more_free = omega (arith, booking.unused, free_before, is_before, is_later, booked.capacity)

      alive_now : last ≡ false → is_live now.phase ≡ true
      alive_now h = rw h refl

      adjusts_more : last ≡ false → Adjusts b.quota p W V e (entry_in G now)
      adjusts_more h = record {
        in_all = booking.all;
        not_used = more_free;
        not_granted = rw (alive_now h) (omega (arith, booking.apart, left_now, same_free, is_before, is_later, booked.capacity));
        here = rw (alive_now h) (booking.here ∙ ap (λ (m : ℕ). Some m) (omega (arith, in_reserve, left_now)));
        elsewhere = booking.elsewhere;
      }

      pub booked_more : last ≡ false → IsBooked (with_changes s o.changes) (record {
        config = b.config;
        table = slice_set b.table k now;
        leases = b.leases;
        quota = p;
      })
      booked_more h = booked_now s b sound booked k r at live o.changes (row_in_slot b.config.prefixes F r.slot item) now refl refl refl pieces_now p
          (adjusts_more h) b.leases (rw (alive_now h) refl)

      final_now : last ≡ true → is_live now.phase ≡ false
      final_now h = rw h refl

      adjusts_done : (q : Budget) → q ≡ closing p r.slot → spare q ≡ spare p + reserve_at p r.slot → last ≡ true → Adjusts b.quota q W V e (entry_in G now)
      adjusts_done q close back h = record {
        in_all = rw close booking.all;
        not_used = rw close more_free;
        not_granted = rw (final_now h)
            (omega (arith, back, booking.apart, reserve_is p r.slot _ booking.here, in_reserve, same_free, is_before, is_later, booked.capacity, taken_within));
        here = rw (final_now h, close) (closed_here p r.slot _ booking.here);
        elsewhere = λ other ne. rw close (closed_elsewhere p r.slot other ne ∙ booking.elsewhere other ne);
      }

      pub booked_done : (q : Budget) → q ≡ closing p r.slot → spare q ≡ spare p + reserve_at p r.slot → last ≡ true →
          IsBooked (with_changes s o.changes) (record {
            config = b.config;
            table = slice_set b.table k now;
            leases = without_grant b.leases
                (kept_name r);
            quota = q;
          })
      booked_done q close back h = booked_now s b sound booked k r at live o.changes
          (row_in_slot b.config.prefixes F r.slot item) now refl refl refl pieces_now q (adjusts_done q close back h) (without_grant b.leases (kept_name r))
          (rw (final_now h) refl)

    stepped_is : stepped W k (Some e) ≡ (change_at W k o.changes (entry_after e n item items o), replied o.answer)
    stepped_is = rw (
      executing,
      left,
      enough laws W sound k e n item items at_k executing left,
      succeeded_now laws W sound k e n item items at_k executing left,
    ) refl

    pub step_answer : (reply : Reply) → reply ≡ replied o.answer → AnswersAt W
        (world_of (with_changes s o.changes) (record b { table = slice_set b.table k now })) k (stepped W k) reply
    step_answer reply is f at_f =
        let same : f ≡ e = entry_is s b k r at f at_f in
        let answered : stepped W k (Some f) ≡ (world_of (with_changes s o.changes) (record b { table = slice_set b.table k now }), reply) =
        rw (same, is, stepped_world) stepped_is in
        carry W _ (stepped W k (Some f)) reply (rw is (answered_reply o.answer)) answered

drop_none : {X : Type 0} (n : ℕ) (xs : List X) → slice_get xs n ≡ None → drop n xs ≡ []
drop_none zero [] h = refl
drop_none (suc n) [] h = refl
drop_none zero (x ∷ xs) h = absurd cc
drop_none (suc n) (x ∷ xs) h = drop_none n xs h

pub idle_step : (s : Store) (b : Books) (k : ℕ) (r : TableEntryFields) (n : ℕ) → slice_get b.table k ≡ Some r → r.phase ≡ Executing n → slice_get r.items n
    ≡ None →
    (e : Entry) → slice_get (world_of s b).table k ≡ Some e → stepped (world_of s b) k (Some e) ≡ (world_of s b, Reply.Idle)
idle_step s b k r n at executing nothing e there = rw (entry_is s b k r at e there, executing, drop_none n r.items nothing) refl
