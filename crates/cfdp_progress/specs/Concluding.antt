-- What follows once the file of a transaction was delivered: its items are performed, and its outcome is handed out
-- (CCSDS 727.0-B-5, copy file and filestore procedures).
--     has_nothing_left R        no transaction has an item to be performed, and of none is the outcome to be handed out
--     WasConcluded R inputs id  one of the inputs hands out the transaction's outcome
--     ConcludedWhenDone         so it is when nothing is left, whatever came
--     IsSentAndWaits R moment s o       its Finished PDU, with this outcome, is sent then, and its session waits
--     FinishedIsSent            so it is in acknowledged mode
--     FinishedIsSentAlone       the same of a transaction that the core does not know: it ended while its EOF PDU was
--                               held
use Rattle.std.specs.Prelude.{◌≡◌, ℕ, Bool, true, false, not, ◌&&◌, List, [], ◌∷◌, ◌++◌, Some, None, is_some}
use Rattle.cfdp_status.specs.declared.transaction.TransactionId.{TransactionId}
use Rattle.cfdp_sessions.specs.Sessions.{SessionFields, session_id, AreDistinct}
use Rattle.cfdp_sessions.specs.declared.session.Ending.{Ending}
use Rattle.cfdp_sessions.specs.declared.session.Stage.TheVariants.{Known, Over, Waiting}
use Rattle.cfdp_transactions.specs.Entry.{Entry, takes_data}
use Rattle.cfdp_transactions.specs.Sound.{Sound}
use Rattle.cfdp_transactions.specs.World.{entry_of, next_runnable}
use Rattle.cfdp_transactions.specs.Writable.{finished_octets}
use Rattle.cfdp_transactions.specs.declared.outcome.Outcome.{Outcome}
use Rattle.cfdp_receiver.specs.State.{State, Input, Finish, session_of}
use Rattle.cfdp_receiver.specs.Due.{first_over}
use Rattle.cfdp_receiver.specs.Turning.{outcome_for, parts, after_input, after_all}

abbrev pub has_nothing_left : State → Bool
has_nothing_left R = not (is_some (next_runnable R.world.table)) && not (is_some (first_over R.world R.sessions))

pub record WasConcluded (R : State) (inputs : List Input) (id : TransactionId) : Type 0 where
  pub front : List Input
  pub moment : ℕ
  pub back : List Input
  pub parts : inputs ≡ front ++ Finish moment ∷ back
  pub session : SessionFields
  pub over : first_over (after_all R front).world (after_all R front).sessions ≡ Some session
  pub named : session_id session ≡ id

-- of a transaction that takes no file data any more: its file was delivered, or it has none, or it ended otherwise
abbrev pub ConcludedWhenDone : Type 0
ConcludedWhenDone =
    (R : State) (inputs : List Input) (id : TransactionId) (session : SessionFields) (entry : Entry) →
    Sound R.world → AreDistinct R.sessions → session_of R id ≡ Some session → session.stage ≡ Known →
    entry_of R.world id ≡ Some entry → takes_data entry.phase ≡ false → has_nothing_left (after_all R inputs) ≡ true →
    WasConcluded R inputs id

pub record IsSentAndWaits (R : State) (moment : ℕ) (session : SessionFields) (outcome : Outcome) : Type 0 where
  pub sent : (parts R (Finish moment)).answer.finished ≡ finished_octets outcome ∷ []
  pub waiting : SessionFields
  pub here : session_of (after_input R (Finish moment)) (session_id session) ≡ Some waiting
  pub waits : waiting.stage ≡ Waiting
  pub anew : waiting.timer.count ≡ 0

-- of a session that was not abandoned
abbrev pub FinishedIsSent : Type 0
FinishedIsSent =
    (R : State) (moment : ℕ) (session : SessionFields) (entry : Entry) →
    AreDistinct R.sessions → first_over R.world R.sessions ≡ Some session → session.is_abandoned ≡ false →
    session.header.acknowledged ≡ true → entry_of R.world (session_id session) ≡ Some entry →
    entry.header.acknowledged ≡ true → IsSentAndWaits R moment session (outcome_for session (Some entry))

abbrev pub FinishedIsSentAlone : Type 0
FinishedIsSentAlone =
    (R : State) (moment : ℕ) (session : SessionFields) (ending : Ending) →
    AreDistinct R.sessions → first_over R.world R.sessions ≡ Some session → session.is_abandoned ≡ false →
    session.header.acknowledged ≡ true → entry_of R.world (session_id session) ≡ None →
    session.stage ≡ Over ending → ending.is_sent ≡ true →
    IsSentAndWaits R moment session (outcome_for session None)
