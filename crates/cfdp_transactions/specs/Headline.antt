-- What is promised of the receiving entity, over every list of events and however transactions interleave.
--     performs event phase      a Step of an entry in Executing: the one event that performs an item
--     IsAdmitted W V event b s  the entry that an admission makes in the next world V, with b blocks and s steps
--                               granted
--     IsPerformed W id e n      a Step of the entry performs its item n as the action table says, and it succeeds
--     IsCarriedOn performing F G e now        the entry of one transaction before and after an event: of the same
--                                             Metadata and grant
--     IsSuccessful e            'successful' for each request, in order, and so one successful response for each
--     IsWithinGrant e           no more blocks and steps spent than granted
--     Promised W event          what holds from a world to the next
--     AtEach P Q W events       P of each world of a run, and Q from each world to the next
--     StartIsSound, NextIsSound, NextIsPromised, Headline      the laws
use Rattle.std.specs.Prelude.{◌≡◌, ◌≢◌, ℕ, suc, ◌+◌, ◌≤◌, pos, ◌≤ℤ◌, Bool, false, ◌||◌, IsTrue, IsFalse, List, [], ◌∷◌, map, drop, Some, slice_get}
use Rattle.cfdp_status.specs.declared.status.Status.TheVariants.{Successful}
use Rattle.cfdp_status.specs.declared.transaction.TransactionId.{TransactionId}
use Rattle.cfdp_actions.specs.Filestore.{Filestore, blocks, after}
use Rattle.cfdp_actions.specs.Actions.{Item, succeeded, ticks}
use Rattle.cfdp_leases.specs.Footprint.{Keeps}
use Rattle.cfdp_verifier.specs.Verdict.{Good, parsed}
use Rattle.cfdp_transactions.specs.Config.{Config}
use Rattle.cfdp_transactions.specs.Entry.{Phase, Receiving, Executing, Done, Ended, is_live, is_executing, Entry, name_of, footprint, spend}
use Rattle.cfdp_transactions.specs.Events.{Event, MetadataCame, Step, Reply, about}
use Rattle.cfdp_transactions.specs.Outcome.{answered, finished}
use Rattle.cfdp_transactions.specs.World.{World, start, entry_of}
use Rattle.cfdp_transactions.specs.Admission.{proposal_of}
use Rattle.cfdp_transactions.specs.Execution.{is_install, act_now, replied, noted, phase_before}
use Rattle.cfdp_transactions.specs.Next.{next, completes}
use Rattle.cfdp_transactions.specs.Sound.{Each, all_successful, Sound}

abbrev pub performs : Event → Phase → Bool
performs (Step id) phase = is_executing phase
performs event phase = false

-- its items are those of the Metadata that came, and nothing is spent yet
pub record IsAdmitted (W V : World) (event : Event) (blocks_granted steps_granted : ℕ) : Type 0 where
  pub entry : Entry
  pub here : entry_of V (about event) ≡ Some entry
  pub came : event ≡ MetadataCame entry.header entry.metadata
  pub items : parsed (proposal_of W.config entry.metadata) ≡ Good entry.items
  pub phase : entry.phase ≡ Receiving
  pub blocks : entry.blocks_granted ≡ blocks_granted
  pub steps : entry.steps_granted ≡ steps_granted
  pub blocks_spent : entry.blocks_spent ≡ pos 0
  pub steps_spent : entry.steps_spent ≡ 0
  pub statuses : entry.statuses ≡ []
  pub filestore : V.filestore ≡ W.filestore

-- the item is done on the whole filestore, and the reply is its answer
pub record IsPerformed (W : World) (id : TransactionId) (e : Entry) (n : ℕ) : Type 0 where
  pub item : Item
  pub is_next : slice_get e.items n ≡ Some item
  pub succeeds : IsTrue (succeeded (act_now W e item).answer)
  pub filestore : (next W (Step id)).0.filestore ≡ after W.filestore (act_now W e item).changes
  pub reply : (next W (Step id)).1 ≡ replied (act_now W e item).answer
  -- the entry notes the answer and spends what it took, and the item after it is the next one
  pub now : Entry
  pub here : entry_of (next W (Step id)).0 id ≡ Some now
  pub statuses : now.statuses ≡ noted e.statuses (act_now W e item).answer
  pub steps : now.steps_spent ≡ e.steps_spent + (1 + ticks (act_now W e item))
  pub blocks : now.blocks_spent ≡ spend e.blocks_spent (act_now W e item).taken (act_now W e item).given
  pub installed : now.installed ≡ (e.installed || is_install item)
  pub phase : now.phase ≡ phase_before (suc n) (drop (suc n) e.items)

-- F and G are the filestores before and after the event; `performing`: the event performed an item
pub record IsCarriedOn (performing : Bool) (F G : Filestore) (e now : Entry) : Type 0 where
  pub header : now.header ≡ e.header
  pub metadata : now.metadata ≡ e.metadata
  pub items : now.items ≡ e.items
  pub blocks_granted : now.blocks_granted ≡ e.blocks_granted
  pub steps_granted : now.steps_granted ≡ e.steps_granted
  -- it spends the blocks that the filestore grows by, no more and no less
  pub blocks_spent : now.blocks_spent ≡ spend e.blocks_spent (blocks G) (blocks F)
  -- only its items change its statuses and steps
  pub steps_spent : IsFalse performing → now.steps_spent ≡ e.steps_spent
  pub statuses : IsFalse performing → now.statuses ≡ e.statuses

pub record IsSuccessful (e : Entry) : Type 0 where
  pub statuses : e.statuses ≡ all_successful e.metadata.requests
  pub responses : (finished e).responses ≡ map (λ r. answered r (Successful r.action)) e.metadata.requests

pub record IsWithinGrant (e : Entry) : Type 0 where
  pub blocks : e.blocks_spent ≤ℤ pos e.blocks_granted
  pub steps : e.steps_spent ≤ e.steps_granted

pub record Promised (W : World) (event : Event) : Type 0 where
  -- a transaction that is admitted has what the reply says, and has spent nothing
  pub admitted : (granted steps : ℕ) → (next W event).1 ≡ Reply.Admitted granted steps →
      IsAdmitted W (next W event).0 event granted steps
  -- each item is performed as the action table says, and succeeds
  pub performed : (id : TransactionId) (e : Entry) (n : ℕ) → event ≡ Step id → entry_of W id ≡ Some e → e.phase
      ≡ Executing n → IsPerformed W id e n
  -- an event leaves its transaction's requests, items and grant as they are, and adds to what is spent just what it
  -- took
  pub carried : (e now : Entry) → entry_of W (about event) ≡ Some e → entry_of (next W event).0 (about event)
      ≡ Some now →
      IsCarriedOn (performs event e.phase) W.filestore (next W event).0.filestore e now
  -- and every other transaction stays just as it is
  pub others : (id : TransactionId) → id ≢ about event → entry_of (next W event).0 id ≡ entry_of W id
  -- a transaction that completes has 'successful' for every request and 'not performed' for none
  pub completed : (k : ℕ) (e now : Entry) → slice_get W.table k ≡ Some e → slice_get (next W event).0.table k
      ≡ Some now → name_of e ≡ about event →
      IsTrue (completes event e.phase now.phase) → IsSuccessful now
  pub done : Each (λ e. e.phase ≡ Done → IsSuccessful e) (next W event).0.table
  -- no entry is ended by a Step: what is Ended after it was so before
  pub step_ends_none : (id : TransactionId) (condition : ℕ) → event ≡ Step id →
      (k : ℕ) (e : Entry) → slice_get (next W event).0.table k ≡ Some e → e.phase ≡ Ended condition →
      slice_get W.table k ≡ Some e
  pub within : Each IsWithinGrant (next W event).0.table
  -- no event of one transaction changes a path leased to another
  pub isolated : Each (λ d. IsTrue (is_live d.phase) → name_of d ≢ about event →
      Keeps W.filestore (next W event).0.filestore (footprint d)) W.table

abbrev pub AtEach : (World → Type 0) → (World → Event → Type 0) → World → List Event → Type 0
AtEach P Q W [] = P W
AtEach P Q W (event ∷ events) = P W × Q W event × AtEach P Q (next W event).0 events

-- a new entity is sound, and every event keeps it so
abbrev pub StartIsSound : Type 0
StartIsSound = (c : Config) → Sound (start c)

abbrev pub NextIsSound : Type 0
NextIsSound = (W : World) (event : Event) → Sound W → Sound (next W event).0

abbrev pub NextIsPromised : Type 0
NextIsPromised = (W : World) (event : Event) → Sound W → Promised W event

-- for every configuration and every list of events
abbrev pub Headline : Type 0
Headline = (c : Config) (events : List Event) → AtEach Sound Promised (start c) events
