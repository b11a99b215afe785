-- What the calls from C do to the engine of a handle, which is None where it has none, and to the reply, and what they
-- answer.
--   transaction_named source number  the transaction of these numbers
--   DoesEvent event            an event of the entity's own: the reply is that of the table of events
--   Receives octets            octets that came: likewise, or why there is no reply, with all as before
--   NothingChanges             an engine or a receiver is as it was, and so is the reply or the report
--   Frees                      an engine or a receiver is freed
--   Takes id                   a request for the outcome, with the buffer before and after, and the count of octets
use Rattle.std.specs.Prelude.{◌≡◌, ◌⊎◌, ℕ, ◌<◌, ◌++◌, drop, length, List, Option, Some, None, IsSome, Result, Ok, Err}
use Rattle.cfdp_status.specs.declared.transaction.TransactionId.{TransactionId}
use Rattle.cfdp_transactions.specs.declared.event.Event.{Event}
use Rattle.cfdp_transactions.specs.declared.event.Event.TheVariants.{Take}
use Rattle.cfdp_transactions.specs.CoreFields.{outcome_in}
use Rattle.cfdp_transactions.specs.Events.{about}
use Rattle.cfdp_transactions.specs.Next.{next}
use Rattle.cfdp_transactions.specs.World.{World}
use Rattle.cfdp_entity.specs.Hearing.{heard_event, MayLackMemory}
use Rattle.cfdp_entity.specs.Sending.{sent}
use Rattle.cfdp_entity.specs.declared.fault.NotHeard.{NotHeard}
use Rattle.cfdp_c.specs.Answers.{answer_code, unheard_answer}
use Rattle.cfdp_c.specs.Reported.{reported}
use Rattle.cfdp_c.specs.declared.answer.CallAnswer.TheVariants.{Done, NoEngine, Memory, TooShort}
use Rattle.cfdp_c.specs.declared.reply.ReplyFields.{ReplyFields}

abbrev pub transaction_named : ℕ → ℕ → TransactionId
transaction_named source number = record { source = source; number = number }

-- the engine, the reply and the answer after an event of a world
abbrev pub RepliesFollow : World → Event → Option World → ReplyFields → ℕ → Type 0
RepliesFollow W event after reply answer =
    (after ≡ Some (next W event).0) × (reply ≡ reported (about event) (next W event).1) × (answer ≡ answer_code Done)

abbrev pub DoesEvent : Event → Option World → Option World → ReplyFields → ReplyFields → ℕ → Type 0
DoesEvent event None after old new answer = (after ≡ None) × (new ≡ old) × (answer ≡ answer_code NoEngine)
DoesEvent event (Some W) after old new answer = RepliesFollow W event after new answer

abbrev pub NothingChanges : {Held Reported : Type 0} → Held → Option Held → Reported → Reported → Type 0
NothingChanges before after old new = (after ≡ Some before) × (new ≡ old)

abbrev pub RepliesHeard : Result Event NotHeard → World → Option World → ReplyFields → ReplyFields → ℕ → Type 0
RepliesHeard (Ok event) W after old new answer = RepliesFollow W event after new answer
RepliesHeard (Err why) W after old new answer =
    NothingChanges W after old new × (answer ≡ answer_code (unheard_answer why))

abbrev pub Receives : List ℕ → Option World → Option World → ReplyFields → ReplyFields → ℕ → Type 0
Receives octets None after old new answer = (after ≡ None) × (new ≡ old) × (answer ≡ answer_code NoEngine)
Receives octets (Some W) after old new answer =
    RepliesHeard (heard_event octets) W after old new answer ⊎ (MayLackMemory octets × NothingChanges W after old new
    × (answer ≡ answer_code Memory))

abbrev pub Frees : {Held : Type 0} → Option Held → ℕ → Type 0
Frees None answer = answer ≡ answer_code NoEngine
Frees (Some before) answer = answer ≡ answer_code Done

-- the outcome of a transaction is taken: the Finished PDU is written, or does not fit, or there is an outcome and no
-- memory for it
abbrev pub Hands : World → TransactionId → Option World → List ℕ → List ℕ → ℕ → ReplyFields → ℕ → Type 0
Hands W id after out written count reply answer =
    RepliesFollow W (Take id) after reply answer × (written ≡ sent (next W (Take id)).1
    ++ drop (length (sent (next W (Take id)).1)) out)
    × (count ≡ length (sent (next W (Take id)).1))

abbrev pub ReportsShort : World → TransactionId → Option World → List ℕ → List ℕ → ℕ → ReplyFields → ReplyFields → ℕ →
    Type 0
ReportsShort W id after out written count old new answer =
    (length out < count) × (count ≡ length (sent (next W (Take id)).1)) × NothingChanges W after old new
    × (written ≡ out) × (answer ≡ answer_code TooShort)

abbrev pub Takes : TransactionId → Option World → Option World → List ℕ → List ℕ → ℕ → ℕ → ReplyFields → ReplyFields →
    ℕ → Type 0
Takes id None after out written before count old new answer =
    (after ≡ None) × (written ≡ out) × (count ≡ before) × (new ≡ old) × (answer ≡ answer_code NoEngine)
Takes id (Some W) after out written before count old new answer =
    Hands W id after out written count new answer ⊎ ReportsShort W id after out written count old new answer
    ⊎ (IsSome (outcome_in W id) × NothingChanges W after old new × (written ≡ out) × (count ≡ before)
    × (answer ≡ answer_code Memory))
