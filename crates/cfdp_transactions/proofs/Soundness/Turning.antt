-- Events that change no path: an entry moves to another phase, or is done without having had an item.
use Rattle.std.proofs.Common.{◌≡◌, ◌≢◌, ℕ, suc, ◌≤◌, [], ◌∷◌, length, refl, ap, sym, ◌∙◌, arith}
use Rattle.std.specs.Prelude.{Option, Some, slice_get, Bool, true, false, IsTrue, IsSome}
use Rattle.std.proofs.lemmas.Bool.{both_ways}
use Rattle.std.proofs.lemmas.List.{nil_from_length}
use Rattle.cfdp_actions.specs.Filestore.{Filestore, blocks, IsRooted}
use Rattle.cfdp_states.specs.Alone.{stage}
use Rattle.cfdp_transactions.specs.Config.{Config}
use Rattle.cfdp_pdus.specs.declared.eof.Eof.{Eof}
use Rattle.cfdp_transactions.specs.Received.{Received, staged_of}
use Rattle.cfdp_transactions.specs.Entry.{Phase, Receiving, Awaiting, Executing, Refused, Done, Ended, is_live, Entry, items_left, rest, blocks_left, reserve, is_awaiting}
use Rattle.cfdp_transactions.specs.World.{World}
use Rattle.cfdp_transactions.specs.Delivery.{turned, turns}
use Rattle.cfdp_transactions.specs.code.LowerLaws.{LowerLaws}
use Rattle.cfdp_transactions.specs.Sound.{longest, is_counted, checks_in, IsKept, Sound}
use Rattle.cfdp_transactions.specs.Headline.{IsCarriedOn}
use Rattle.cfdp_transactions.proofs.Balance.{spend-even}
use Rattle.cfdp_transactions.proofs.Soundness.LeftAlone.{succeed_same}
use Rattle.cfdp_transactions.proofs.Soundness.OwnChange.{MovesTo, change_moves}

-- live entries --------------------------------------------------------------------

pub reserve_live : (e : Entry) → IsTrue (is_live e.phase) → reserve e ≡ blocks_left e.blocks_granted e.blocks_spent
reserve_live e live = rw live

pub live_counted : (phase : Phase) → IsTrue (is_live phase) → IsTrue (is_counted phase)
live_counted Receiving h = refl
live_counted (Awaiting checks) h = refl
live_counted (Executing next) h = refl
live_counted Refused h = absurd cc
live_counted Done h = refl
live_counted (Ended condition) h = absurd cc

pub length-staged_of : (rs : Received) → length (staged_of rs) ≡ length rs
length-staged_of [] = refl
length-staged_of (r ∷ rs) = ap suc (length-staged_of rs)

-- turns ---------------------------------------------------------------------------

-- nothing but its phase and its EOF
turned_carried : (F : Filestore) (e : Entry) (phase : Phase) (eof : Option Eof) (complete : Bool) → IsCarriedOn false F F e (turned e phase eof complete)
turned_carried F e phase eof complete = record {
  header = refl;
  metadata = refl;
  items = refl;
  blocks_granted = refl;
  steps_granted = refl;
  blocks_spent = spend-even e.blocks_spent (blocks F);
  steps_spent = λ _. refl;
  statuses = λ _. refl;
}

module _ (laws : LowerLaws) where
  -- a phase in which no longer list may come
  pub kept_turned : (c : Config) (F : Filestore) (e : Entry) (phase : Phase) (eof : Option Eof) (complete : Bool) → IsKept c F e → IsRooted F →
      items_left phase e.items ≡ rest e → length e.received ≤ length (longest c (turned e phase eof complete)) →
      length (longest c (turned e phase eof complete)) ≤ length (longest c e) →
      rest e ≢ [] → (IsTrue (is_awaiting phase) → IsSome eof) → checks_in phase ≤ c.checks → IsKept c F (turned e phase eof complete)
  kept_turned c F e phase eof complete kept rooted same fits shorter more waits few =
      let new = turned e phase eof complete in
      let law = laws.longer_file c.prefixes F e.slot (longest c new) (longest c e) (rest e) kept.slot shorter in
      record {
        slot = kept.slot;
        staged = kept.staged;
        fits = fits;
        nothing = λ h. let z = kept.nothing (rw same at h) in omega arith;
        more = λ _. rw same more;
        pieces = kept.pieces;
        eof = waits;
        checks = few;
        promise = record {
          succeeds = rw same (succeed_same c.prefixes (stage F e.slot (longest c e)) (stage F e.slot (longest c new)) e.slot e.slot (rest e)
              (sym law.0) kept.promise.succeeds);
          blocks = rw same (omega (arith, kept.promise.blocks, law.1));
          steps = rw same (omega (arith, kept.promise.steps, law.2));
        };
      }

  pub turns_moves : (W : World) (k : ℕ) (e : Entry) (phase : Phase) (eof : Option Eof) (complete : Bool) → Sound W → slice_get W.table k ≡ Some e →
      IsTrue (is_live e.phase) → IsTrue (is_live phase) →
      items_left phase e.items ≡ rest e → length e.received ≤ length (longest W.config (turned e phase eof complete)) →
      length (longest W.config (turned e phase eof complete)) ≤ length (longest W.config e) →
      rest e ≢ [] → (IsTrue (is_awaiting phase) → IsSome eof) → checks_in phase ≤ W.config.checks →
      MovesTo false k e (turned e phase eof complete) W (turns W k e phase eof complete)
  turns_moves W k e phase eof complete s at live live_now same fits shorter more waits few =
      let honest = s.honest k e at in
      change_moves laws W s false k e [] (turned e phase eof complete) (record {
        at = at;
        live = live;
        isolated = λ fp _ p _. refl;
        in_slot = tt;
        slot = refl;
        carried = turned_carried W.filestore e phase eof complete;
        rooted = s.rooted;
        kept = λ _. kept_turned W.config W.filestore e phase eof complete (s.live k e at live) s.rooted same fits shorter more waits few;
        emptied = λ final. absurd (both_ways (is_live phase) final live_now);
        honest = record {
          blocks = honest.blocks;
          steps = honest.steps;
          limits = honest.limits;
          no_more = honest.no_more;
          statuses = honest.statuses;
          in_order = honest.in_order;
          to_come = λ _. rw same (honest.to_come (live_counted e.phase live));
          counted = λ _. rw same (honest.counted (live_counted e.phase live));
        };
        room = rw live (omega arith);
      })

  -- a list without items is done at its EOF
  pub done_moves : (W : World) (k : ℕ) (e : Entry) (eof : Option Eof) → Sound W → slice_get W.table k ≡ Some e → IsTrue (is_live e.phase) → rest e ≡ [] →
      MovesTo false k e (turned e Done eof true) W (turns W k e Done eof true)
  done_moves W k e eof s at live none =
      let honest = s.honest k e at in
      let kept = s.live k e at live in
      let empty : e.received ≡ [] = nil_from_length e.received (let z = kept.nothing (rw none refl) in omega (arith, kept.fits)) in
      change_moves laws W s false k e [] (turned e Done eof true) (record {
        at = at;
        live = live;
        isolated = λ fp _ p _. refl;
        in_slot = tt;
        slot = refl;
        carried = turned_carried W.filestore e Done eof true;
        rooted = s.rooted;
        kept = λ now. absurd cc;
        emptied = λ _. kept.staged ∙ ap staged_of empty;
        honest = record {
          blocks = honest.blocks;
          steps = honest.steps;
          limits = honest.limits;
          no_more = honest.no_more;
          statuses = honest.statuses;
          in_order = honest.in_order;
          to_come = λ _. rw none at (honest.to_come (live_counted e.phase live));
          counted = λ _. rw none at (honest.counted (live_counted e.phase live));
        };
        room = rw live (omega arith);
      })
