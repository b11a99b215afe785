-- What the calls of the layers below need, and a sound world gives: blocks from the reserve, steps from those left, and
-- room in the filestore.
--     IsReady W e n             the entry's item n: it is there, and may be performed
--     HasRoomFor W e received   octets that may be staged for the entry
--     StepNeeds, DataNeeds, TakeNeeds   for each entry of a sound world
--     Follows W event reply V   what a call may do: nothing, if out of memory, and else what the table says
--     FollowsIsSound            then the world stays sound
--     may_lack_memory thrifty event   whether the event may run out of memory, where the store takes none, or some
--     OnlyTakeHandsOut          no other event's reply has an outcome
use Rattle.std.specs.Prelude.{◌≡◌, ℕ, ◌+◌, ◌-◌, max, ◌≤◌, Bool, true, false, not, IsTrue, IsFalse, length, Some, slice_get}
use Rattle.std.specs.List.{AllByRecursion}
use Rattle.cfdp_actions.specs.Filestore.{staged_in, blocks_of}
use Rattle.cfdp_actions.specs.Actions.{Item, succeeded, ticks, row}
use Rattle.cfdp_tlv.specs.Values.{IsRequest, IsResponse}
use Rattle.cfdp_transactions.specs.Received.{Received, staged_of}
use Rattle.cfdp_transactions.specs.Entry.{Executing, takes_data, Entry, reserve}
use Rattle.cfdp_transactions.specs.Events.{Event, MetadataCame, DataCame, Step, Take, Reply, is_take, hands_out}
use Rattle.cfdp_transactions.specs.Outcome.{finished}
use Rattle.cfdp_transactions.specs.World.{World, free}
use Rattle.cfdp_transactions.specs.Delivery.{limit}
use Rattle.cfdp_transactions.specs.Execution.{act_now}
use Rattle.cfdp_transactions.specs.Next.{next}
use Rattle.cfdp_transactions.specs.Sound.{Sound}

pub record IsReady (W : World) (e : Entry) (n : ℕ) : Type 0 where
  pub item : Item
  pub is_next : slice_get e.items n ≡ Some item
  pub in_room : act_now W e item ≡ row W.config.prefixes W.filestore e.slot item
  pub succeeds : IsTrue (succeeded (act_now W e item).answer)
  pub taken : (act_now W e item).taken ≤ reserve e + (act_now W e item).given
  pub steps : e.steps_spent + (1 + ticks (act_now W e item)) ≤ e.steps_granted
  pub free_blocks : reserve e ≤ free W

abbrev pub StepNeeds : Type 0
StepNeeds = (W : World) (k : ℕ) (e : Entry) (n : ℕ) → Sound W → slice_get W.table k ≡ Some e → e.phase ≡ Executing n →
    IsReady W e n

pub record HasRoomFor (W : World) (e : Entry) (received : Received) : Type 0 where
  pub staged : staged_in W.filestore e.slot ≡ staged_of e.received
  pub taken : blocks_of (length received) - blocks_of (length e.received) ≤ reserve e
  pub free_blocks : reserve e ≤ free W

abbrev pub DataNeeds : Type 0
DataNeeds =
    (W : World) (k : ℕ) (e : Entry) (received : Received) → Sound W → slice_get W.table k ≡ Some e →
    IsTrue (takes_data e.phase) →
    length received ≤ max (length e.received) (limit e.phase W.config e) → HasRoomFor W e received

-- a response has a second name exactly where its action has one, where the requests do
abbrev pub TakeNeeds : Type 0
TakeNeeds =
    (W : World) (k : ℕ) (e : Entry) → Sound W → slice_get W.table k ≡ Some e →
    AllByRecursion IsRequest e.metadata.requests →
    AllByRecursion IsResponse (finished e).responses

abbrev pub Follows : World → Event → Reply → World → Type 0
Follows W event Reply.Memory V = V ≡ W
Follows W event reply V = next W event ≡ (V, reply)

abbrev pub FollowsIsSound : Type 0
FollowsIsSound = (W : World) (event : Event) (reply : Reply) (V : World) → Sound W → Follows W event reply V → Sound V

abbrev pub OnlyTakeHandsOut : Type 0
OnlyTakeHandsOut = (W : World) (event : Event) (reply : Reply) (V : World) → Follows W event reply V →
    IsFalse (is_take event) → IsFalse (hands_out reply)

-- a new entry and an outcome take memory; octets that come and items do where the store does
abbrev pub may_lack_memory : (takes_no_memory : Bool) → Event → Bool
may_lack_memory takes_no_memory (MetadataCame h m) = true
may_lack_memory takes_no_memory (Take id) = true
may_lack_memory takes_no_memory (DataCame h piece) = not takes_no_memory
may_lack_memory takes_no_memory (Step id) = not takes_no_memory
may_lack_memory takes_no_memory event = false
