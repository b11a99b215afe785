-- The core as its callers see it.
--     CoreFields                the world, and whether its store takes no memory
--     read_of f W id            what is read of an entry, where the transaction is there
--     outcome_in W id           the outcome of a transaction, where it is there and over
--     may_begin W h m           a Metadata PDU may begin a transaction: it is for this entity, its transaction is not
--                               there, and there is room for it and its list
--     AsksForNone W event       an event that takes no memory, whatever the store: a Metadata PDU that begins none, and
--                               a request for the outcome of a transaction that is live or not there
use Rattle.std.specs.Prelude.{Bool, ◌&&◌, ◌==◌, if◌then◌else◌, nat_lt, nat_le, length, Option, Some, None, is_none, IsNone, IsFalse}
use Rattle.std.specs.Option.{option_map}
use Rattle.cfdp_status.specs.declared.transaction.TransactionId.{TransactionId}
use Rattle.cfdp_pdus.specs.Values.{MetadataFields}
use Rattle.cfdp_pdus.specs.declared.header.Header.{Header}
use Rattle.cfdp_transactions.specs.Entry.{Entry, id_of, is_live}
use Rattle.cfdp_transactions.specs.Events.{Event, MetadataCame, Outcome, Take}
use Rattle.cfdp_transactions.specs.Outcome.{outcome_of}
use Rattle.cfdp_transactions.specs.World.{World, entry_of}

pub record CoreFields : Type 0 where
  pub world : World
  pub takes_no_memory : Bool

abbrev pub read_of : {X : Type 0} → (Entry → X) → World → TransactionId → Option X
read_of f W id = option_map f (entry_of W id)

abbrev pub outcome_when_over : Entry → Option Outcome
outcome_when_over e = if is_live e.phase then None else Some (outcome_of e)

abbrev pub where_any : Option (Option Outcome) → Option Outcome
where_any None = None
where_any (Some outcome) = outcome

abbrev pub outcome_in : World → TransactionId → Option Outcome
outcome_in W id = where_any (read_of outcome_when_over W id)

abbrev pub may_begin : World → Header → MetadataFields → Bool
may_begin W h m =
    (h.destination == W.config.entity) && is_none (entry_of W (id_of h)) && nat_lt (length W.table) 64
    && nat_le (length m.requests) 64

abbrev pub AsksForNone : World → Event → Type 0
AsksForNone W (MetadataCame h m) = IsFalse (may_begin W h m)
AsksForNone W (Take id) = IsNone (outcome_in W id)
AsksForNone W event = ⊥
