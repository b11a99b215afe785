-- What a sound world gives to the calls of the layers below.
use Rattle.std.proofs.Common.{◌≡◌, ℕ, ◌≤◌, List, [], ◌∷◌, length, drop, take, refl, ap, subst, arith}
use Rattle.std.specs.Prelude.{Some, slice_get, IsTrue}
use Rattle.std.specs.List.{AllByRecursion}
use Rattle.std.proofs.lemmas.List.{length-replicate}
use Rattle.cfdp_status.specs.declared.status.Status.{Status}
use Rattle.cfdp_status.specs.declared.status.Status.TheVariants.{Successful}
use Rattle.cfdp_actions.specs.Filestore.{staged_in, blocks_of}
use Rattle.cfdp_actions.specs.Actions.{Item, row}
use Rattle.cfdp_actions.proofs.RowLaws.{blocks_of-mono}
use Rattle.cfdp_actions.proofs.Weights.{blocks-stages}
use Rattle.cfdp_states.specs.Alone.{stage}
use Rattle.cfdp_states.proofs.NextItem.{blocks-le-peak}
use Rattle.cfdp_tlv.specs.Values.{RequestFields, IsRequest, IsResponse}
use Rattle.cfdp_transactions.specs.Config.{Config}
use Rattle.cfdp_transactions.specs.Entry.{Phase, Receiving, Awaiting, Executing, Refused, Done, Ended, takes_data, Entry, rest, reserve, awaited}
use Rattle.cfdp_transactions.specs.Events.{Reply}
use Rattle.cfdp_transactions.specs.Outcome.{answered, responses_of}
use Rattle.cfdp_transactions.specs.World.{World, free, bound}
use Rattle.cfdp_transactions.specs.Delivery.{limit}
use Rattle.cfdp_transactions.specs.Execution.{act_now}
use Rattle.cfdp_transactions.specs.Next.{next}
use Rattle.cfdp_transactions.specs.code.LowerLaws.{LowerLaws}
use Rattle.cfdp_transactions.specs.Sound.{longest_in, longest, all_successful, Sound}
use Rattle.cfdp_transactions.specs.Needs.{IsReady, StepNeeds, DataNeeds, TakeNeeds, FollowsIsSound}
use Rattle.cfdp_transactions.proofs.Soundness.OwnChange.{reserve_within}
use Rattle.cfdp_transactions.proofs.Soundness.Turning.{length-staged_of, reserve_live}
use Rattle.cfdp_transactions.proofs.Soundness.Stepping.{enough, succeeded_now, takes_within, steps_within}
use Rattle.cfdp_transactions.proofs.Soundness.EachEvent.{data_live}
use Rattle.cfdp_transactions.proofs.Soundness.NextWorld.{next_sound}
use Rattle.cfdp_transactions.proofs.Promises.Promise.{get_drop}

free_reserve : (W : World) (k : ℕ) (e : Entry) → Sound W → slice_get W.table k ≡ Some e → reserve e ≤ free W
free_reserve W k e s at = omega (arith, s.room, reserve_within W.table k e at)

module _ (laws : LowerLaws) where
  ready : (W : World) (k : ℕ) (e : Entry) (n : ℕ) → Sound W → slice_get W.table k ≡ Some e → e.phase ≡ Executing n → (left : List Item) → drop n e.items
      ≡ left → IsReady W e n
  ready W k e n s at is [] left = absurd ((s.live k e at (rw is refl)).more (rw is refl) (rw is left))
  ready W k e n s at is (item ∷ items) left =
      let same : act_now W e item ≡ row W.config.prefixes W.filestore e.slot item = enough laws W s k e n item items at is left in
      record {
        item = item;
        is_next = get_drop n e.items items item left;
        in_room = same;
        succeeds = rw same (succeeded_now laws W s k e n item items at is left);
        taken = rw (same, reserve_live e (rw is refl)) (takes_within laws W s k e n item items at is left);
        steps = rw same (steps_within laws W s k e n item items at is left);
        free_blocks = free_reserve W k e s at;
      }

  pub step_needs : StepNeeds
  step_needs W k e n s at is = ready W k e n s at is (drop n e.items) refl

  pub follows_sound : FollowsIsSound
  follows_sound W event Reply.Memory V s f = rw f s
  follows_sound W event reply V s f = subst Sound (ap (λ (a : World × Reply). a.0) f) (next_sound laws W s event)

-- octets end no further than the longest list does
limit_within : (phase : Phase) (c : Config) (e : Entry) → IsTrue (takes_data phase) → limit phase c e ≤ length (longest_in phase c e)
limit_within Receiving c e h = omega (arith, length-replicate {A = ℕ} (bound c e.metadata) 0)
limit_within (Awaiting checks) c e h = omega (arith, length-replicate {A = ℕ} (awaited e.eof) 0)
limit_within (Executing next) c e h = absurd cc
limit_within Refused c e h = absurd cc
limit_within Done c e h = absurd cc
limit_within (Ended condition) c e h = absurd cc

pub data_needs : DataNeeds
data_needs W k e received s at takes short =
    let live = data_live e.phase takes in
    let kept = s.live k e at live in
    let x = longest W.config e in
    let old : length (staged_in W.filestore e.slot) ≡ length e.received = rw kept.staged (length-staged_of e.received) in
    let more = blocks_of-mono (length received) (length x) (omega (arith, limit_within e.phase W.config e takes, kept.fits)) in
    let begins = blocks-le-peak W.config.prefixes (stage W.filestore e.slot x) e.slot (rest e) in
    let staging = blocks-stages W.filestore e.slot x kept.slot in
    record {
      staged = kept.staged;
      taken = rw (reserve_live e live) (omega (arith, kept.promise.blocks, begins, staging, ap blocks_of old, more));
      free_blocks = free_reserve W k e s at;
    }

responses_whole : (rs : List RequestFields) (ss : List Status) → AllByRecursion IsRequest rs → ss ≡ take (length ss) (all_successful rs) →
    AllByRecursion IsResponse (responses_of rs ss)
responses_whole [] ss whole own = tt
responses_whole (r ∷ rs) [] whole own = (whole.0, responses_whole rs [] whole.1 refl)
responses_whole (r ∷ rs) (s ∷ ss) whole own =
    let first : s ≡ Successful r.action = cc in
    let others : ss ≡ take (length ss) (all_successful rs) = cc in
    let here : IsResponse (answered r s) = rw first whole.0 in
    (here, responses_whole rs ss whole.1 others)

pub take_needs : TakeNeeds
take_needs W k e s at whole = responses_whole e.metadata.requests e.statuses whole (s.honest k e at).in_order
