-- Each event of a transaction that is in the table keeps the world sound and the others' leased paths, and changes no entry
-- but its own.
use Rattle.std.proofs.Common.{◌≡◌, ◌≢◌, ℕ, ◌+◌, ◌≤◌, List, [], ◌∷◌, length, ◌⊎◌, refl, ap, sym, ◌∙◌, arith}
use Rattle.std.specs.Prelude.{Bool, Option, Some, None, slice_get, slice_set, remove, true, false, not, IsTrue, ◌==◌, ◌||◌, nat_lt, nat_le, replicate, drop}
use Rattle.std.proofs.lemmas.Bool.{cond_both, not-false, eqb-true, eqb-false, ltb-false, or_parts, leb-false}
use Rattle.std.proofs.lemmas.List.{length-replicate, nil_from_length}
use mathlib.Core.Logic.{inl, inr}
use Rattle.cfdp_actions.specs.Filestore.{Filestore, blocks}
use Rattle.cfdp_actions.specs.Actions.{Item, row}
use Rattle.cfdp_pdus.specs.Values.{FileDataFields}
use Rattle.cfdp_pdus.specs.declared.eof.Eof.{Eof}
use Rattle.cfdp_transactions.specs.Received.{Received, kept_with, pieces, is_whole}
use Rattle.cfdp_transactions.specs.Entry.{Phase, Receiving, Awaiting, Executing, Refused, Done, Ended, is_live, is_receiving, is_executing, takes_data, Entry, rest, has_file, awaited}
use Rattle.cfdp_transactions.specs.Events.{Reply}
use Rattle.cfdp_transactions.specs.World.{World, bound}
use Rattle.cfdp_transactions.specs.Ending.{ended, ends, cancelled, taken_out}
use Rattle.cfdp_transactions.specs.Delivery.{turned, storing, stores, is_right_checksum, whole, limit, after_eof, stored, data_came, eof_without_error, eof_came, check_at}
use Rattle.cfdp_transactions.specs.Execution.{entry_after, step_at, step_in}
use Rattle.cfdp_transactions.specs.code.LowerLaws.{LowerLaws}
use Rattle.cfdp_transactions.specs.Sound.{longest, Sound}
use Rattle.cfdp_transactions.specs.Headline.{IsCarriedOn}
use Rattle.cfdp_transactions.proofs.Indexes.{get_set_other, get_set_same, set_set_same, set_get_same}
use Rattle.cfdp_transactions.proofs.Balance.{spend-even, spend-then}
use Rattle.cfdp_transactions.proofs.Soundness.OwnChange.{Goes, MovesTo, Moves}
use Rattle.cfdp_transactions.proofs.Soundness.Ending.{is_ending, ends_moves}
use Rattle.cfdp_transactions.proofs.Soundness.Turning.{length-staged_of, turns_moves, done_moves}
use Rattle.cfdp_transactions.proofs.Soundness.Receiving.{kept_grows, kept_within}
use Rattle.cfdp_transactions.proofs.Soundness.Storing.{stores_moves}
use Rattle.cfdp_transactions.proofs.Soundness.Stepping.{enough, succeeded_now, step_moves}
use Rattle.cfdp_transactions.proofs.Soundness.Joining.{taken_sound}

-- events that change nothing, or one entry twice ---------------------------------------

-- a transaction that takes file data is live
pub data_live : (phase : Phase) → IsTrue (takes_data phase) → IsTrue (is_live phase)
data_live Receiving h = refl
data_live (Awaiting checks) h = refl
data_live (Executing next) h = absurd cc
data_live Refused h = absurd cc
data_live Done h = absurd cc
data_live (Ended condition) h = absurd cc

pub stays : (k : ℕ) (W : World) → Sound W → Goes k W W
stays k W s = record { sound = s; keeps = λ j d at ne live p covered. refl }

pub still : (performing : Bool) (k : ℕ) (e : Entry) (W : World) → Sound W → slice_get W.table k ≡ Some e → Moves performing k e W W
still performing k e W s at = (
  e,
  record {
    goes = stays k W s;
    table = sym (set_get_same W.table k e at);
    carried = record {
      header = refl;
      metadata = refl;
      items = refl;
      blocks_granted = refl;
      steps_granted = refl;
      blocks_spent = spend-even e.blocks_spent (blocks W.filestore);
      steps_spent = λ _. refl;
      statuses = λ _. refl;
    };
  },
)

carried_then : (F G H : Filestore) (e new now : Entry) → IsCarriedOn false F G e new → IsCarriedOn false G H new now → IsCarriedOn false F H e now
carried_then F G H e new now first second = record {
  header = second.header ∙ first.header;
  metadata = second.metadata ∙ first.metadata;
  items = second.items ∙ first.items;
  blocks_granted = second.blocks_granted ∙ first.blocks_granted;
  steps_granted = second.steps_granted ∙ first.steps_granted;
  blocks_spent = spend-then e.blocks_spent new.blocks_spent now.blocks_spent (blocks F) (blocks G) (blocks H) first.blocks_spent second.blocks_spent;
  steps_spent = λ no. second.steps_spent no ∙ first.steps_spent no;
  statuses = λ no. second.statuses no ∙ first.statuses no;
}

moves_then : (k : ℕ) (e new : Entry) (W V U : World) → MovesTo false k e new W V → Moves false k new V U → Moves false k e W U
moves_then k e new W V U first next =
    let now : Entry = next.0 in
    let second : MovesTo false k new now V U = next.1 in
    let others : (j : ℕ) → j ≢ k → slice_get V.table j ≡ slice_get W.table j = λ j ne. rw first.table (get_set_other W.table k new j ne) in
    let same : slice_set V.table k now ≡ slice_set W.table k now = rw first.table (set_set_same W.table k new now) in
    let goes : Goes k W U = record {
      sound = second.goes.sound;
      keeps = λ j d at ne live p covered. first.goes.keeps j d at ne live p covered ∙ second.goes.keeps j d (others j ne ∙ at) ne live p covered;
    } in (
      now,
      record {
        goes = goes;
        table = second.table ∙ same;
        carried = carried_then W.filestore V.filestore U.filestore e new now first.carried
            second.carried;
      },
    )

receiving_is : (phase : Phase) → IsTrue (is_receiving phase) → phase ≡ Receiving
receiving_is Receiving h = refl
receiving_is (Awaiting checks) h = absurd cc
receiving_is (Executing next) h = absurd cc
receiving_is Refused h = absurd cc
receiving_is Done h = absurd cc
receiving_is (Ended condition) h = absurd cc

module _ (laws : LowerLaws) where
  module _ (W : World) (k : ℕ) (e : Entry) (s : Sound W) (at : slice_get W.table k ≡ Some e) where
    still_here : Moves false k e W W
    still_here = still false k e W s at

    ends_here : (condition : ℕ) → IsTrue (is_live e.phase) → Moves false k e W (ends W k e condition)
    ends_here condition live = (ended W.filestore e condition, ends_moves laws W k e e condition s at live (is_ending e))

    -- cancel, take ------------------------------------------------------------------

    pub cancelled_moves : Moves false k e W (cancelled W k (Some e)).0
    cancelled_moves = cond_both (is_live e.phase) _ _ (λ (a : World × Reply). Moves false k e W a.0) (λ live. ends_here 15 live) (λ _. still_here)

    pub taken_goes : Goes k W (taken_out W k (Some e)).0
    taken_goes = cond_both (is_live e.phase) _ _ (λ (a : World × Reply). Goes k W a.0) (λ _. stays k W s)
        (λ final. record { sound = taken_sound W k e s at final; keeps = λ j d here ne live p covered. refl })

    -- it stays while it is live, and then goes
    pub taken_table : ((taken_out W k (Some e)).0 ≡ W) ⊎ ((taken_out W k (Some e)).0 ≡ record W { table = remove W.table k })
    taken_table = cond_both (is_live e.phase) _ _ (λ (a : World × Reply). (a.0 ≡ W) ⊎ (a.0 ≡ record W { table = remove W.table k })) (λ _. inl refl)
        (λ _. inr refl)

    -- check -------------------------------------------------------------------------

    pub check_moves : (phase : Phase) → e.phase ≡ phase → Moves false k e W (check_at phase W k e).0
    check_moves (Awaiting checks) is =
        let live : IsTrue (is_live e.phase) = rw is refl in
        let kept = s.live k e at live in
        cond_both (nat_le W.config.checks (checks + 1)) _ _ (λ (a : World × Reply). Moves false k e W a.0) (λ _. ends_here 10 live)
        (λ below. (
          turned e (Awaiting (checks + 1)) e.eof e.complete,
          turns_moves laws W k e (Awaiting (checks + 1)) e.eof e.complete s at live refl (rw is refl) (rw is at kept.fits) (rw is (omega arith))
              (kept.more (rw is refl)) (λ _. kept.eof (rw is refl)) (omega (arith, leb-false _ _ below)),
        ))
    check_moves Receiving is = still_here
    check_moves (Executing next) is = still_here
    check_moves Refused is = still_here
    check_moves Done is = still_here
    check_moves (Ended condition) is = still_here

    -- all octets are there ------------------------------------------------------------

    whole_moves : (sum : ℕ) → IsTrue (is_live e.phase) → e.items ≡ rest e → rest e ≢ [] → Moves false k e W (whole W k e sum).0
    whole_moves sum live all more =
        let kept = s.live k e at live in
        cond_both (is_right_checksum e sum) _ _ (λ (a : World × Reply). Moves false k e W a.0)
        (λ _. (
          turned e (Executing 0) e.eof true,
          turns_moves laws W k e (Executing 0) e.eof true s at live refl all
              (omega (arith, length-staged_of e.received)) (omega (arith, length-staged_of e.received, kept.fits)) more (λ no. absurd cc) (omega arith),
        ))
        (λ _. ends_here 5 live)

    -- the EOF -------------------------------------------------------------------------

    eof_at_moves : (eof : Eof) → e.phase ≡ Receiving → Moves false k e W (eof_without_error W k e eof).0
    eof_at_moves eof is =
        let live : IsTrue (is_live e.phase) = rw is refl in
        let kept = s.live k e at live in
        let all : e.items ≡ rest e = rw is refl in
        let longest_is : longest W.config e ≡ replicate (bound W.config e.metadata) 0 = rw is refl in
        cond_both (length e.items == 0) _ _ (λ (a : World × Reply). Moves false k e W a.0)
        (λ none. (turned e Done e.eof true, done_moves laws W k e e.eof s at live (sym all ∙ nil_from_length e.items (eqb-true _ _ none))))
        (λ some.
        let more : rest e ≢ [] = λ q. eqb-false _ _ some (ap length (all ∙ q)) in
        cond_both (not (has_file e.metadata)) _ _ (λ (a : World × Reply). Moves false k e W a.0)
        (λ _. (
          turned e (Executing 0) e.eof true,
          turns_moves laws W k e (Executing 0) e.eof true s at live refl all
              (omega (arith, length-staged_of e.received)) (omega (arith, length-staged_of e.received, kept.fits)) more (λ no. absurd cc) (omega arith),
        ))
        (λ _. cond_both (nat_lt (bound W.config e.metadata) eof.size || nat_lt eof.size (length e.received)) _ _ (λ (a : World × Reply). Moves false k e W a.0)
        (λ _. ends_here 6 live)
        (λ inside.
        let both = or_parts _ _ inside in
        let below : eof.size ≤ bound W.config e.metadata = ltb-false _ _ both.0 in
        let above : length e.received ≤ eof.size = ltb-false _ _ both.1 in
        cond_both (not (is_whole eof.size e.received)) _ _ (λ (a : World × Reply). Moves false k e W a.0)
        (λ _. (
          turned e (Awaiting 0) (Some eof) e.complete,
          turns_moves laws W k e (Awaiting 0) (Some eof) e.complete s at live refl all (omega (arith, length-replicate {A = ℕ} eof.size 0, above))
              (rw longest_is (omega (arith, length-replicate {A = ℕ} eof.size 0, length-replicate {A = ℕ} (bound W.config e.metadata) 0, below))) more
              (λ _. refl) (omega arith),
        ))
        (λ _. whole_moves eof.checksum live all more))))

    pub eof_moves : (eof : Eof) → Moves false k e W (eof_came W k eof (Some e)).0
    eof_moves eof =
        cond_both (not (is_live e.phase)) _ _ (λ (a : World × Reply). Moves false k e W a.0) (λ _. still_here)
        (λ l.
        let live : IsTrue (is_live e.phase) = not-false _ l in
        cond_both (not (eof.condition == 0)) _ _ (λ (a : World × Reply). Moves false k e W a.0)
        (λ _. (
          ended W.filestore (record e { ended_by_eof = true }) eof.condition,
          ends_moves laws W k e (record e { ended_by_eof = true }) eof.condition s at live
              (record {
                header = refl;
                metadata = refl;
                slot = refl;
                items = refl;
                statuses = refl;
                granted = refl;
                steps_granted = refl;
                spent = refl;
                steps_spent = refl;
              }),
        ))
        (λ _. cond_both (not (is_receiving e.phase)) _ _ (λ (a : World × Reply). Moves false k e W a.0) (λ _. still_here)
        (λ r. eof_at_moves eof (receiving_is e.phase (not-false _ r)))))

    -- a step --------------------------------------------------------------------------

    step_at_moves : (n : ℕ) (items : List Item) → e.phase ≡ Executing n → drop n e.items ≡ items → Moves true k e W (step_at W k e n items).0
    step_at_moves n [] is left = still true k e W s at
    step_at_moves n (item ∷ items) is left = (
      entry_after e n item items (row W.config.prefixes W.filestore e.slot item),
      rw (enough laws W s k e n item items at is left, succeeded_now laws W s k e n item items at is left) (step_moves laws W s k e n item items at is left),
    )

    pub step_moves_in : (phase : Phase) → e.phase ≡ phase → Moves (is_executing phase) k e W (step_in phase W k e).0
    step_moves_in (Executing n) is = step_at_moves n (drop n e.items) is refl
    step_moves_in Receiving is = still_here
    step_moves_in (Awaiting checks) is = still_here
    step_moves_in Refused is = still_here
    step_moves_in Done is = still_here
    step_moves_in (Ended condition) is = still_here

  -- file data -----------------------------------------------------------------------

  module _ (W : World) (k : ℕ) (e : Entry) (s : Sound W) (at : slice_get W.table k ≡ Some e) (piece : FileDataFields) where
    abbrev received : Received
    received = kept_with e.received piece.offset piece.octets

    abbrev new : Entry
    new = storing W.filestore e received

    after_eof_moves : (eof : Option Eof) → IsTrue (is_live new.phase) → new.items ≡ rest new → rest new ≢ [] → MovesTo false k e new W (stores W k e received) →
        Moves false k e W (after_eof eof (stores W k e received) k new).0
    after_eof_moves None live all more first = (new, first)
    after_eof_moves (Some eof) live all more first =
        let V = stores W k e received in
        cond_both (is_whole eof.size new.received) _ _ (λ (a : World × Reply). Moves false k e W a.0)
        (λ _. moves_then k e new W V (whole V k new eof.checksum).0 first (whole_moves V k new first.goes.sound
        (get_set_same W.table k new e at) eof.checksum live all more))
        (λ _. (new, first))

    pub storing_moves : pieces received ≤ 32 → (phase : Phase) → e.phase ≡ phase → IsTrue (takes_data phase) → piece.offset
        + length piece.octets ≤ limit phase W.config e → MovesTo false k e new W (stores W k e received)
    storing_moves few Receiving is takes below =
        let live : IsTrue (is_live e.phase) = rw is refl in
        let kept = s.live k e at live in
        let within : length received ≤ bound W.config e.metadata =
        kept_within e.received piece.offset piece.octets (bound W.config e.metadata) (let f = rw is at kept.fits in
        omega (arith, length-replicate {A = ℕ} (bound W.config e.metadata) 0)) below in
        stores_moves laws W s k e received at live (kept_grows e.received piece.offset piece.octets)
        (rw is (omega (arith, length-replicate {A = ℕ} (bound W.config e.metadata) 0, within))) (rw is refl) few
    storing_moves few (Awaiting checks) is takes below =
        let live : IsTrue (is_live e.phase) = rw is refl in
        let kept = s.live k e at live in
        let within : length received ≤ awaited e.eof =
        kept_within e.received piece.offset piece.octets (awaited e.eof) (let f = rw is at kept.fits in
        omega (arith, length-replicate {A = ℕ} (awaited e.eof) 0)) (omega arith) in
        stores_moves laws W s k e received at live (kept_grows e.received piece.offset piece.octets)
        (rw is (omega (arith, length-replicate {A = ℕ} (awaited e.eof) 0, within))) (rw is refl) few
    storing_moves few (Executing next) is takes below = absurd cc
    storing_moves few Refused is takes below = absurd cc
    storing_moves few Done is takes below = absurd cc
    storing_moves few (Ended condition) is takes below = absurd cc

    stored_moves : (phase : Phase) → e.phase ≡ phase → IsTrue (takes_data phase) → MovesTo false k e new W (stores W k e received) →
        Moves false k e W (stored phase (stores W k e received) k new).0
    stored_moves (Awaiting checks) is takes first = let kept = s.live k e at (rw is refl) in
        after_eof_moves e.eof (rw is refl) (rw is refl) (kept.more (rw is refl)) first
    stored_moves Receiving is takes first = (new, first)
    stored_moves (Executing next) is takes first = absurd cc
    stored_moves Refused is takes first = absurd cc
    stored_moves Done is takes first = absurd cc
    stored_moves (Ended condition) is takes first = absurd cc

    pub data_moves : Moves false k e W (data_came W k piece (Some e)).0
    data_moves =
        cond_both (takes_data e.phase) _ _ (λ (a : World × Reply). Moves false k e W a.0)
        (λ takes. cond_both (length piece.octets == 0) _ _ (λ (a : World × Reply). Moves false k e W a.0) (λ _. still_here W k e s at)
        (λ _. cond_both (nat_lt (limit e.phase W.config e) (piece.offset + length piece.octets)) _ _ (λ (a : World × Reply). Moves false k e W a.0)
        (λ _. ends_here W k e s at 6 (data_live e.phase takes))
        (λ below. cond_both (nat_lt 32 (pieces received)) _ _ (λ (a : World × Reply). Moves false k e W a.0) (λ _. still_here W k e s at)
        (λ few. stored_moves e.phase refl takes (storing_moves (ltb-false _ _ few) e.phase refl takes (ltb-false _ _ below))))))
        (λ _. still_here W k e s at)
