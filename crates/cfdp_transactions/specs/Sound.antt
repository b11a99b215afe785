-- What is true of the receiving entity at all times.
--     Each P table, EachTwo R table     P of every entry;  R of any two
--     longest c e, longest_in   the longest list of octets that may still be delivered to an entry;  by its phase
--     Promise c F e             run alone from F, what is left succeeds within what is left of the grant
--     is_next_install items     the first item is the install
--     checks_in phase           how many checks were made
--     IsKept c F e              of a live entry: its staged octets, its items and its promise
--     IsApart d e               of two live entries: no conflict, and a slot for each
--     is_counted phase          of a live entry, or one in Done: it has a status for each request that is not left
--     requests_in items, successes items      how many requests are among the items;  'successful' for each of them
--     all_successful requests   'successful' for each request as it was sent
--     IsLimited                 a grant, its requests and its items within the limits
--     IsHonest c e              of every entry, final ones too: no more spent than granted, no request failed, all
--                               within the limits
--     IsVacant table slot       no live entry has the slot
--     Sound W                   of the whole entity: what its live entries lease, that it does not conflict, that their
--                               reserves fit into the free blocks, and that each keeps its promise
use Rattle.std.specs.Prelude.{◌≡◌, ◌≢◌, ℕ, suc, ◌+◌, ◌≤◌, ◌<◌, pos, ◌≤ℤ◌, Bool, true, false, IsTrue, IsFalse, IsSome, List, [], ◌∷◌, ◌++◌, length, map, replicate, take, Some, slice_get}
use Rattle.std.specs.List.{AllByRecursion}
use Rattle.cfdp_status.specs.declared.status.Status.{Status}
use Rattle.cfdp_status.specs.declared.status.Status.TheVariants.{Successful}
use Rattle.cfdp_status.specs.Codes.{is_successful}
use Rattle.cfdp_actions.specs.Filestore.{Filestore, staged_in, blocks, IsRooted}
use Rattle.cfdp_actions.specs.Actions.{action_in, Item, Install, Perform}
use Rattle.cfdp_leases.specs.Footprint.{is_conflict, IsWithin}
use Rattle.cfdp_states.specs.Alone.{Succeed, stage, need_with, steps_with}
use Rattle.cfdp_tlv.specs.Values.{RequestFields}
use Rattle.cfdp_transactions.specs.Config.{Config}
use Rattle.cfdp_transactions.specs.Received.{staged_of, pieces}
use Rattle.cfdp_transactions.specs.Entry.{Phase, Receiving, Awaiting, Refused, Ended, is_live, is_receiving, is_awaiting, Entry, name_of, rest, footprint, blocks_left, awaited}
use Rattle.cfdp_transactions.specs.World.{World, reserves, bound}

abbrev pub Each : (Entry → Type 0) → List Entry → Type 0
Each P table = (k : ℕ) (e : Entry) → slice_get table k ≡ Some e → P e

abbrev pub EachTwo : (Entry → Entry → Type 0) → List Entry → Type 0
EachTwo R table = (j k : ℕ) (d e : Entry) → slice_get table j ≡ Some d → slice_get table k ≡ Some e → j ≢ k → R d e

-- live entries -------------------------------------------------------------------

-- zeros up to the bound, or to the EOF's size; then what is staged, which is nothing once the file is installed
abbrev pub longest_in : Phase → Config → Entry → List ℕ
longest_in Receiving c e = replicate (bound c e.metadata) 0
longest_in (Awaiting checks) c e = replicate (awaited e.eof) 0
longest_in phase c e = staged_of e.received

abbrev pub longest : Config → Entry → List ℕ
longest c e = longest_in e.phase c e

pub record Promise (c : Config) (F : Filestore) (e : Entry) : Type 0 where
  pub succeeds : Succeed c.prefixes (stage F e.slot (longest c e)) e.slot (rest e)
  pub blocks : need_with c.prefixes F e.slot (longest c e) (rest e) ≤ blocks_left e.blocks_granted e.blocks_spent
  pub steps : steps_with c.prefixes F e.slot (longest c e) (rest e) + e.steps_spent ≤ e.steps_granted

abbrev pub is_next_install : List Item → Bool
is_next_install [] = false
is_next_install (Install p ∷ items) = true
is_next_install (Perform request ∷ items) = false

-- how many checks were made
abbrev pub checks_in : Phase → ℕ
checks_in (Awaiting checks) = checks
checks_in phase = 0

pub record IsKept (c : Config) (F : Filestore) (e : Entry) : Type 0 where
  pub slot : e.slot < length F.staged
  pub staged : staged_in F e.slot ≡ staged_of e.received
  pub fits : length e.received ≤ length (longest c e)
  pub nothing : IsFalse (is_next_install (rest e)) → length (longest c e) ≡ 0  -- no file is delivered any more
  pub more : IsFalse (is_receiving e.phase) → rest e ≢ []  -- a list without items is done at its EOF
  pub pieces : pieces e.received ≤ 32
  pub eof : IsTrue (is_awaiting e.phase) → IsSome e.eof
  pub checks : checks_in e.phase ≤ c.checks
  pub promise : Promise c F e

pub record IsApart (d e : Entry) : Type 0 where
  pub paths : IsFalse (is_conflict (footprint d) (footprint e))
  pub slots : d.slot ≢ e.slot

-- all entries --------------------------------------------------------------------

-- the live ones, and those in Done
abbrev pub is_counted : Phase → Bool
is_counted Refused = false
is_counted (Ended condition) = false
is_counted phase = true

abbrev pub requests_in : List Item → ℕ
requests_in [] = 0
requests_in (Install p ∷ items) = requests_in items
requests_in (Perform request ∷ items) = suc (requests_in items)

-- 'successful' for each request among the items, in order
abbrev pub successes : List Item → List Status
successes [] = []
successes (Install p ∷ items) = successes items
successes (Perform request ∷ items) = Successful (action_in request) ∷ successes items

-- and for each request as it was sent
abbrev pub all_successful : List RequestFields → List Status
all_successful requests = map (λ r. Successful r.action) requests

-- of a grant, its requests and its items
pub record IsLimited (blocks granted steps requests items : ℕ) : Type 0 where
  pub of_blocks : granted ≤ blocks
  pub of_steps : steps ≤ 65536
  pub of_requests : requests ≤ 64
  pub of_items : items ≤ 1 + requests

pub record IsHonest (c : Config) (e : Entry) : Type 0 where
  pub blocks : e.blocks_spent ≤ℤ pos e.blocks_granted
  pub steps : e.steps_spent ≤ e.steps_granted
  pub limits : IsLimited c.blocks e.blocks_granted e.steps_granted (length e.metadata.requests) (length e.items)
  pub no_more : length e.statuses ≤ length e.metadata.requests
  pub statuses : AllByRecursion (λ s. IsTrue (is_successful s)) e.statuses
  -- each of its own request's action
  pub in_order : e.statuses ≡ take (length e.statuses) (all_successful e.metadata.requests)
  pub to_come : IsTrue (is_counted e.phase) → e.statuses ++ successes (rest e) ≡ all_successful e.metadata.requests
  pub counted : IsTrue (is_counted e.phase) → length e.statuses + requests_in (rest e) ≡ length e.metadata.requests

-- no live entry has the slot
abbrev pub IsVacant : List Entry → ℕ → Type 0
IsVacant table slot = Each (λ e. IsTrue (is_live e.phase) → e.slot ≢ slot) table

pub record Sound (W : World) : Type 0 where
  -- what the items name, and its ancestors, are leased as the footprint lists them
  pub covered : Each (λ e. IsTrue (is_live e.phase) → AllByRecursion (IsWithin (footprint e)) e.items) W.table
  pub live : Each (λ e. IsTrue (is_live e.phase) → IsKept W.config W.filestore e) W.table
  pub apart : EachTwo (λ d e. IsTrue (is_live d.phase) → IsTrue (is_live e.phase) → IsApart d e) W.table
  pub honest : Each (IsHonest W.config) W.table
  pub names : EachTwo (λ d e. name_of d ≢ name_of e) W.table
  pub few : length W.table ≤ 64
  pub slots : length W.filestore.staged ≡ 64
  pub vacant : (slot : ℕ) → IsVacant W.table slot → staged_in W.filestore slot ≡ []
  pub rooted : IsRooted W.filestore
  -- what was granted and is not spent, never less than 0 by `honest`, fits into the free blocks
  pub room : blocks W.filestore + reserves W.table ≤ W.config.blocks
  -- no more blocks given back than there are
  pub given : Each (λ e. blocks_left e.blocks_granted e.blocks_spent ≤ W.config.blocks) W.table
