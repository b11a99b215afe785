-- How a transaction ends before it is done (CCSDS 727.0-B-5, cancel and fault handling procedures), and how its outcome
-- is taken.
--     ends W k e condition      the entry ends: what is staged is given back; the reserve and the leases go
--     cancelled, taken_out      a request to cancel;  a request for the outcome, with which the entry goes
use Rattle.std.specs.Prelude.{ℕ, if◌then◌else◌, [], ◌∷◌, length, Option, Some, None, remove}
use Rattle.cfdp_actions.specs.Filestore.{Filestore, staged_in, blocks_of, Stages}
use Rattle.cfdp_pdus.specs.Codes.{cancel_request_received}
use Rattle.cfdp_transactions.specs.Entry.{Ended, is_live, Entry, spend}
use Rattle.cfdp_transactions.specs.Events.{Reply}
use Rattle.cfdp_transactions.specs.Outcome.{outcome_of}
use Rattle.cfdp_transactions.specs.World.{World, change_at}

abbrev pub ended : Filestore → Entry → ℕ → Entry
ended F e condition = record e {
  phase = Ended condition;
  received = [];
  blocks_spent = spend e.blocks_spent 0 (blocks_of (length (staged_in F e.slot)));
}

abbrev pub ends : World → ℕ → Entry → ℕ → World
ends W k e condition = change_at W k (Stages e.slot [] ∷ []) (ended W.filestore e condition)

abbrev pub cancelled : World → ℕ → Option Entry → World × Reply
cancelled W k None = (W, Reply.Unknown)
cancelled W k (Some e) =
    if is_live e.phase then (ends W k e cancel_request_received, Reply.Cancelled) else (W, Reply.Idle)

abbrev pub taken_out : World → ℕ → Option Entry → World × Reply
taken_out W k None = (W, Reply.Unknown)
taken_out W k (Some e) =
    if is_live e.phase then (W, Reply.Idle)
    else (record W { table = remove W.table k }, Reply.Taken (outcome_of e))
