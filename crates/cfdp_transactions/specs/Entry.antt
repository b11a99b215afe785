-- Transactions at the receiving entity, from their Metadata to their outcome (CCSDS 727.0-B-5, copy file procedures).
--     Phase                     how far it is;  is_live: not yet refused, done or ended
--     is_receiving, is_awaiting, takes_data, is_executing      in Receiving;  in Awaiting;  in one of these;
--                                                              in Executing
--     Entry                     a transaction of the table
--     id_of h, name_of e        its name: source entity ID and transaction sequence number
--     has_file m                the Metadata has a destination
--     rest e, items_left        the items that are left;  by the phase
--     footprint e               the paths that its items lease
--     spend spent taken given   blocks spent, after more were taken and given back
--     blocks_left granted spent  the blocks granted less those spent
--     reserve e                 these, while the entry is live, else 0
--     awaited eof               the size that the EOF gave
--     gaps e, gaps_in           the offsets that a NAK would ask for (lost segment procedures);  by the phase
--     progress e                the end of the last octet kept: 0 where none is kept
--     reach e, reach_in         the offset up to which gaps say;  by the phase
use Rattle.std.specs.Prelude.{ℕ, suc, ◌+◌, ◌-◌, ℤ, pos, negsuc, ◌+ℤ◌, ◌-ℤ◌, Bool, true, false, ◌==◌, if◌then◌else◌, List, [], drop, length, Option, Some, None}
use Rattle.cfdp_status.specs.declared.status.Status.{Status}
use Rattle.cfdp_status.specs.declared.transaction.TransactionId.{TransactionId}
use Rattle.cfdp_actions.specs.Actions.{Item}
use Rattle.cfdp_leases.specs.Footprint.{Footprint, footprint_of}
use Rattle.cfdp_pdus.specs.Values.{MetadataFields}
use Rattle.cfdp_pdus.specs.declared.header.Header.{Header}
use Rattle.cfdp_pdus.specs.declared.eof.Eof.{Eof}
use Rattle.cfdp_transactions.specs.Received.{Received, gaps_below}
pub use Rattle.cfdp_transactions.specs.declared.phase.Phase.{Phase}
pub use Rattle.cfdp_transactions.specs.declared.phase.Phase.TheVariants.{Receiving, Awaiting, Executing, Refused, Done, Ended}

abbrev pub is_live : Phase → Bool
is_live Receiving = true
is_live (Awaiting checks) = true
is_live (Executing next) = true
is_live Refused = false
is_live Done = false
is_live (Ended condition) = false

abbrev pub is_receiving : Phase → Bool
is_receiving Receiving = true
is_receiving phase = false

abbrev pub is_awaiting : Phase → Bool
is_awaiting (Awaiting checks) = true
is_awaiting phase = false

-- Receiving, or Awaiting
abbrev pub takes_data : Phase → Bool
takes_data Receiving = true
takes_data (Awaiting checks) = true
takes_data phase = false

abbrev pub is_executing : Phase → Bool
is_executing (Executing next) = true
is_executing phase = false

pub record Entry : Type 0 where
  pub header : Header  -- of its Metadata PDU
  pub metadata : MetadataFields
  pub phase : Phase
  pub eof : Option Eof  -- the one that made it Awaiting
  pub complete : Bool  -- it came to Executing or Done
  pub installed : Bool
  pub ended_by_eof : Bool  -- by an EOF's condition
  pub received : Received
  pub slot : ℕ  -- where its octets are staged
  pub items : List Item  -- the install, where there is a file, and the requests
  pub statuses : List Status  -- of the requests that were performed
  pub blocks_granted : ℕ
  pub steps_granted : ℕ
  pub blocks_spent : ℤ  -- taken less given back, since admission
  pub steps_spent : ℕ

abbrev pub id_of : Header → TransactionId
id_of h = record { source = h.source; number = h.number }

abbrev pub name_of : Entry → TransactionId
name_of e = id_of e.header

abbrev pub has_file : MetadataFields → Bool
has_file m = if length m.destination_name == 0 then false else true

abbrev pub items_left : Phase → List Item → List Item
items_left Receiving items = items
items_left (Awaiting checks) items = items
items_left (Executing next) items = drop next items
items_left phase items = []

abbrev pub rest : Entry → List Item
rest e = items_left e.phase e.items

abbrev pub footprint : Entry → Footprint
footprint e = footprint_of e.items

abbrev pub spend : ℤ → ℕ → ℕ → ℤ
spend spent taken given = (spent +ℤ pos taken) -ℤ pos given

abbrev pub blocks_left : ℕ → ℤ → ℕ
blocks_left granted (pos spent) = granted - spent
blocks_left granted (negsuc less) = granted + suc less

abbrev pub reserve : Entry → ℕ
reserve e = if is_live e.phase then blocks_left e.blocks_granted e.blocks_spent else 0

abbrev pub awaited : Option Eof → ℕ
awaited None = 0
awaited (Some eof) = eof.size

abbrev pub gaps_in : Phase → Entry → List (ℕ × ℕ)
gaps_in Receiving e = gaps_below (length e.received) e.received
gaps_in (Awaiting checks) e = gaps_below (awaited e.eof) e.received
gaps_in phase e = []

abbrev pub gaps : Entry → List (ℕ × ℕ)
gaps e = gaps_in e.phase e

abbrev pub progress : Entry → ℕ
progress e = length e.received

abbrev pub reach_in : Phase → Entry → ℕ
reach_in Receiving e = progress e
reach_in (Awaiting checks) e = awaited e.eof
reach_in phase e = 0

abbrev pub reach : Entry → ℕ
reach e = reach_in e.phase e
