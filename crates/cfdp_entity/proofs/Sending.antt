-- The outcome that an entity describes before it is taken can be written, and its Finished PDU has at most 16488 octets.
use Rattle.std.proofs.Common.{◌≡◌, ℕ, ◌≤◌, List, [], ◌∷◌, length, Bool, true, false, Option, Some, refl, sym, subst, ◌∙◌, arith}
use Rattle.std.specs.Prelude.{⊤, None, IsNone, if◌then◌else◌, remove, Result, Ok, Err, IfOk, IfSome, OnErr, OnOk}
use Rattle.std.specs.Option.{option_map}
use Rattle.std.proofs.lemmas.Bool.{cond_both}
use Rattle.cfdp_status.specs.declared.transaction.TransactionId.{TransactionId}
use Rattle.cfdp_transactions.specs.declared.outcome.Outcome.{Outcome}
use Rattle.cfdp_transactions.specs.declared.reply.Reply.{Reply}
use Rattle.cfdp_transactions.specs.declared.reply.Reply.TheVariants as replied
use Rattle.cfdp_transactions.specs.declared.event.Event.TheVariants.{Take}
use Rattle.cfdp_transactions.specs.Entry.{Entry, is_live}
use Rattle.cfdp_transactions.specs.World.{World, index_of, entry_of}
use Rattle.cfdp_transactions.specs.Outcome.{outcome_of}
use Rattle.cfdp_transactions.specs.Ending.{taken_out}
use Rattle.cfdp_transactions.specs.CoreFields.{outcome_when_over, where_any, outcome_in}
use Rattle.cfdp_transactions.specs.Writable.{FitsReply, IsWritable, longest_finished}
use Rattle.cfdp_transactions.specs.Fitting.{OnlyWritable}
use Rattle.cfdp_transactions.specs.FinishedInBuffer.{taken_by}
use Rattle.cfdp_transactions.specs.declared.finished_in_buffer.ShortBuffer.{ShortBuffer}
use Rattle.cfdp_transactions.specs.declared.finished_in_buffer.TakenFinished.{TakenFinished}
use Rattle.cfdp_transactions.proofs.Promises.Fitting.{writable_next}
use Rattle.cfdp_transactions.specs.Next.{next}
use Rattle.cfdp_entity.specs.Sending.{sent}

abbrev Fits : Option Outcome → Type 0
Fits None = ⊤
Fits (Some outcome) = IsWritable outcome

abbrev answered : Bool → World → World → Outcome → World × Reply
answered live W V o = if live then (W, replied.Idle) else (V, replied.Taken o)

fits_by : (live : Bool) (W V : World) (o : Outcome) →
    FitsReply (answered live W V o).1 → Fits (if live then None else Some o)
fits_by true W V o fits = tt
fits_by false W V o fits = fits

fits_of : (W : World) (k : ℕ) (e : Option Entry) → FitsReply (taken_out W k e).1 → Fits (where_any (option_map outcome_when_over e))
fits_of W k None fits = tt
fits_of W k (Some e) fits = fits_by (is_live e.phase) W (record W { table = remove W.table k }) (outcome_of e) fits

-- an outcome can be written
pub some_fits : (W : World) (id : TransactionId) (o : Outcome) → OnlyWritable W → Some o ≡ outcome_in W id → IsWritable o
some_fits W id o only some = subst Fits (sym some) (fits_of W (index_of W id) (entry_of W id) (only (Take id ∷ []) (tt, tt)).0)

-- and so can what a call says of it, where it had memory
pub returned_fits : {E : Type 0} (W : World) (id : TransactionId) (returned : Result (Option Outcome) E) → OnlyWritable W →
    IfOk returned (λ o. o ≡ outcome_in W id) → IfOk returned (λ o. IfSome o IsWritable)
returned_fits W id (Err why) only same = tt
returned_fits W id (Ok None) only same = tt
returned_fits W id (Ok (Some o)) only same = some_fits W id o only same

-- its length -------------------------------------------------------------------------

reply_len : (reply : Reply) → FitsReply reply → length (sent reply) ≤ longest_finished
reply_len (replied.Taken o) fits = cond_both o.send _ _ (λ (octets : List ℕ). length octets ≤ longest_finished) (λ _. fits.most) (λ _. omega arith)
reply_len reply fits = omega arith

pub sent_len : (W : World) (id : TransactionId) → OnlyWritable W → length (sent (next W (Take id)).1) ≤ longest_finished
sent_len W id only = reply_len (next W (Take id)).1 (only (Take id ∷ []) (tt, tt)).0

-- where there is no outcome ----------------------------------------------------------

none_by : (live : Bool) (W V : World) (o : Outcome) → IsNone (taken_by (answered live W V o).1) →
    IsNone (if live then None else Some o) × ((answered live W V o).0 ≡ W)
none_by true W V o none = (refl, refl)
none_by false W V o none = absurd cc

none_of : (W : World) (k : ℕ) (e : Option Entry) → IsNone (taken_by (taken_out W k e).1) →
    IsNone (where_any (option_map outcome_when_over e)) × ((taken_out W k e).0 ≡ W)
none_of W k None none = (refl, refl)
none_of W k (Some e) none = none_by (is_live e.phase) W (record W { table = remove W.table k }) (outcome_of e) none

none_taken : (W : World) (id : TransactionId) (returned : Option TakenFinished) → returned ≡ taken_by (next W (Take id)).1 → IsNone returned →
    IsNone (outcome_in W id) × ((next W (Take id)).0 ≡ W)
none_taken W id returned is none = none_of W (index_of W id) (entry_of W id) (subst (λ (t : Option TakenFinished). IsNone t) is none)

module _ (W V : World) (id : TransactionId) where
  -- there is none
  pub none_there : (result : Result (Option TakenFinished) ShortBuffer) → IfOk result (λ returned. returned ≡ taken_by (next W (Take id)).1) →
      IfOk result (λ returned. IsNone returned → IsNone (outcome_in W id))
  none_there (Ok returned) is = λ none. (none_taken W id returned is none).0
  none_there (Err short) is = tt

  -- and nothing changes
  pub none_changes : (result : Result (Option TakenFinished) ShortBuffer) → IfOk result (λ returned. returned ≡ taken_by (next W (Take id)).1) →
      OnOk result (V ≡ (next W (Take id)).0) → IfOk result (λ returned. IsNone returned → V ≡ W)
  none_changes (Ok returned) is world = λ none. world ∙ (none_taken W id returned is none).1
  none_changes (Err short) is world = tt

  -- whatever comes next, its outcomes can be written
  pub writable_then : (result : Result (Option TakenFinished) ShortBuffer) → OnlyWritable W → OnOk result (V ≡ (next W (Take id)).0) →
      OnErr result (V ≡ W) → OnlyWritable V
  writable_then (Ok returned) only world kept = subst OnlyWritable (sym world) (writable_next W (Take id) only tt)
  writable_then (Err short) only world kept = subst OnlyWritable (sym kept) only
