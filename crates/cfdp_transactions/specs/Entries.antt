-- Which event adds an entry to the table, and which takes one out of it. Every other entry stays.
--     OnlyMetadataAdds          no event adds an entry but a Metadata PDU
--     MetadataAddsItsOwn        an entry that is new is of the Metadata PDU that came
--     OnlyTakeRemoves           no event takes an entry out but the request for its own outcome
--     TakeRemoves, TakeKeeps    which takes it out where it is over, and changes nothing where it is live
--     OtherEntriesStay          an event changes no entry but that of its own transaction
use Rattle.std.specs.Prelude.{◌≡◌, ◌≢◌, IsTrue, IsFalse, IsSome, Some, None}
use Rattle.cfdp_status.specs.declared.transaction.TransactionId.{TransactionId}
use Rattle.cfdp_transactions.specs.Entry.{is_live, Entry}
use Rattle.cfdp_transactions.specs.Events.{Event, MetadataCame, Take, about, is_metadata}
use Rattle.cfdp_transactions.specs.World.{World, entry_of}
use Rattle.cfdp_transactions.specs.Next.{next}
use Rattle.cfdp_transactions.specs.Sound.{Sound}

abbrev pub OnlyMetadataAdds : Type 0
OnlyMetadataAdds =
    (W : World) (event : Event) (id : TransactionId) → Sound W → IsFalse (is_metadata event) → entry_of W id ≡ None →
    entry_of (next W event).0 id ≡ None

abbrev pub MetadataAddsItsOwn : Type 0
MetadataAddsItsOwn =
    (W : World) (event : Event) (id : TransactionId) (e : Entry) → Sound W → entry_of W id ≡ None →
    entry_of (next W event).0 id ≡ Some e →
    event ≡ MetadataCame e.header e.metadata

abbrev pub OnlyTakeRemoves : Type 0
OnlyTakeRemoves =
    (W : World) (event : Event) (id : TransactionId) → Sound W → event ≢ Take id → IsSome (entry_of W id) →
    IsSome (entry_of (next W event).0 id)

abbrev pub TakeRemoves : Type 0
TakeRemoves =
    (W : World) (id : TransactionId) (e : Entry) → Sound W → entry_of W id ≡ Some e → IsFalse (is_live e.phase) →
    entry_of (next W (Take id)).0 id ≡ None

abbrev pub TakeKeeps : Type 0
TakeKeeps = (W : World) (id : TransactionId) (e : Entry) → entry_of W id ≡ Some e → IsTrue (is_live e.phase) →
    (next W (Take id)).0 ≡ W

abbrev pub OtherEntriesStay : Type 0
OtherEntriesStay = (W : World) (event : Event) (id : TransactionId) → Sound W → id ≢ about event →
    entry_of (next W event).0 id ≡ entry_of W id
