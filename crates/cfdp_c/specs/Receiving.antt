-- What the calls from C do to the receiver of a handle, which is None where it has none, and to the report, and what
-- they answer.
--   world_in handle               the core's world, where there is a receiver
--   Reports S input               the receiver took its turn at an input, and the report is that of the answer
--   ReceiverDoes input            an input that is no PDU: likewise, or there is no receiver
--   dropped_answer                what is returned for octets that were dropped
--   ReceiverReceives now octets   octets that came: likewise, or why they were dropped, with all as before
--   TakesFinished now             an outcome is taken;  or one is there, and there is no memory for it
--   TellsDeadline                 the moment from which on a timer is due, if one runs
--   WritesPdu number              the PDU with this number of the last answer is written
--   ReceiverOpens fields          a receiver is made over the engine of another handle
use Rattle.std.specs.Prelude.{◌≡◌, ◌≢◌, ◌⊎◌, ℕ, ◌≤◌, ◌<◌, ◌+◌, ◌^◌, max, drop, take, length, slice_get, List, Option, Some, None, Result, Ok, Err}
use Rattle.std.specs.Option.{option_map}
use Rattle.cfdp_receiver.specs.declared.mib.Mib.{Mib}
use Rattle.cfdp_crc.specs.declared.sealing.CrcFault.TheVariants as crc
use Rattle.cfdp_receiver.specs.declared.reading.Dropped.{Dropped}
use Rattle.cfdp_receiver.specs.declared.reading.Dropped.TheVariants as dropped
use Rattle.cfdp_receiver.specs.Due.{first_due, first_over}
use Rattle.cfdp_receiver.specs.Handing.{own_time}
use Rattle.cfdp_receiver.specs.Heard.{IsDropped}
use Rattle.cfdp_receiver.specs.StateMachine.{has_come, is_any_due}
use Rattle.cfdp_receiver.specs.Sent.{as_sent, crc_len, longest_sealed}
use Rattle.cfdp_receiver.specs.State.{Input, State, Finish, begin}
use Rattle.cfdp_reception.specs.Reception.{ReceptionFields, Turned, Hears, pdus_in}
use Rattle.cfdp_transactions.specs.World.{World}
use Rattle.cfdp_c.specs.Answers.{answer_code, fault_answer}
use Rattle.cfdp_c.specs.Calls.{NothingChanges}
use Rattle.cfdp_c.specs.Mibs.{opened}
use Rattle.cfdp_c.specs.Reads.{FoundOrNothing}
use Rattle.cfdp_c.specs.Reports.{report_of}
use Rattle.cfdp_c.specs.declared.answer.CallAnswer.{CallAnswer}
use Rattle.cfdp_c.specs.declared.answer.CallAnswer.TheVariants.{Done, NoEngine, HasEngine, Memory, TooShort, Nothing, Truncated, BadVersion, LengthMismatch, BadCrc}
use Rattle.cfdp_c.specs.declared.mib.MibFields.{MibFields}
use Rattle.cfdp_c.specs.declared.reports.ReportFields.{ReportFields}

abbrev pub world_in : Option ReceptionFields → Option World
world_in handle = option_map (λ S. S.machine.state.world) handle

abbrev pub Reports : ReceptionFields → Input → Option ReceptionFields → ReportFields → Type 0
Reports S input None report = ⊥
Reports S input (Some T) report = Turned S T input × (report ≡ report_of T)

abbrev pub ReceiverDoes : Input → Option ReceptionFields → Option ReceptionFields → ReportFields → ReportFields → ℕ →
    Type 0
ReceiverDoes input None after old new answer = (after ≡ None) × (new ≡ old) × (answer ≡ answer_code NoEngine)
ReceiverDoes input (Some S) after old new answer = Reports S input after new × (answer ≡ answer_code Done)

abbrev pub ReportsHeard : ℕ → List ℕ → ReceptionFields → Option ReceptionFields → ReportFields → Type 0
ReportsHeard now octets S None report = ⊥
ReportsHeard now octets S (Some T) report = Hears now octets S T × (report ≡ report_of T)

abbrev pub dropped_answer : Dropped → CallAnswer
dropped_answer (dropped.Crc crc.Truncated) = Truncated
dropped_answer (dropped.Crc crc.BadVersion) = BadVersion
dropped_answer (dropped.Crc crc.LengthMismatch) = LengthMismatch
dropped_answer (dropped.Crc crc.BadCrc) = BadCrc
dropped_answer (dropped.Pdu fault) = fault_answer fault

abbrev pub Drops : ℕ → List ℕ → ℕ → Type 0
Drops now octets answer = (why : Dropped) × IsDropped now octets why × (answer ≡ answer_code (dropped_answer why))

abbrev pub ReceiverReceives : ℕ → List ℕ → Option ReceptionFields → Option ReceptionFields → ReportFields →
    ReportFields → ℕ → Type 0
ReceiverReceives now octets None after old new answer = (after ≡ None) × (new ≡ old) × (answer ≡ answer_code NoEngine)
ReceiverReceives now octets (Some S) after old new answer =
    (ReportsHeard now octets S after new × (answer ≡ answer_code Done))
    ⊎ (Drops now octets answer × NothingChanges S after old new)

abbrev pub HasOutcome : ReceptionFields → Type 0
HasOutcome S = first_over S.machine.state.world S.machine.state.sessions ≢ None

abbrev pub TakesFinished : ℕ → Option ReceptionFields → Option ReceptionFields → ReportFields → ReportFields → ℕ →
    Type 0
TakesFinished now None after old new answer = (after ≡ None) × (new ≡ old) × (answer ≡ answer_code NoEngine)
TakesFinished now (Some S) after old new answer =
    (Reports S (Finish now) after new × (answer ≡ answer_code Done))
    ⊎ (HasOutcome S × NothingChanges S after old new × (answer ≡ answer_code Memory))

-- from this moment on a timer is due, and not before; or none ever is
abbrev pub IsDeadline : State → Option ℕ → Type 0
IsDeadline R moment = (now : ℕ) → now < 2 ^ 64 → has_come moment now
    ≡ is_any_due (first_due (record R { now = own_time R now }) R.sessions)

abbrev pub TellsDeadline : Option ReceptionFields → ℕ → ℕ → ℕ → Type 0
TellsDeadline None old new answer = (new ≡ old) × (answer ≡ answer_code NoEngine)
TellsDeadline (Some S) old new answer = (moment : Option ℕ) × IsDeadline S.machine.state moment
    × FoundOrNothing moment old new answer

-- a buffer after a PDU was written to its beginning
abbrev pub IsAfter : List ℕ → List ℕ → List ℕ → ℕ → Type 0
IsAfter sent out written count = (sent ≡ take count written) × (count ≤ length out)
    × (drop count written ≡ drop count out)

abbrev pub IsUnwritten : List ℕ → List ℕ → ℕ → ℕ → Type 0
IsUnwritten out written before count = (written ≡ out) × (count ≡ before)

abbrev pub WritesSent : Mib → Option (List ℕ) → List ℕ → List ℕ → ℕ → ℕ → ℕ → Type 0
WritesSent mib None out written before count answer = IsUnwritten out written before count ×
    (answer ≡ answer_code Nothing)
WritesSent mib (Some octets) out written before count answer =
    (IsAfter (as_sent mib octets) out written count × (answer ≡ answer_code Done))
    ⊎ ((length out < length octets + crc_len mib) × (length out < max longest_sealed mib.longest_nak)
    × IsUnwritten out written before count
    × (answer ≡ answer_code TooShort))

abbrev pub WritesPdu : ℕ → Option ReceptionFields → List ℕ → List ℕ → ℕ → ℕ → ℕ → Type 0
WritesPdu number None out written before count answer = IsUnwritten out written before count
    × (answer ≡ answer_code NoEngine)
WritesPdu number (Some S) out written before count answer =
    WritesSent S.machine.state.mib (slice_get (pdus_in S) number) out written before count answer

abbrev pub IsBegun : Mib → World → Option ReceptionFields → Type 0
IsBegun mib W None = ⊥
IsBegun mib W (Some S) = (S.machine.state ≡ begin mib W) × (S.answer ≡ None)

-- out of memory the engine is freed with what was put into it
abbrev pub ReceiverOpensOver : Result Mib CallAnswer → World → Option World → Option ReceptionFields → ℕ → Type 0
ReceiverOpensOver (Err why) W engine after answer = (engine ≡ Some W) × (after ≡ None) × (answer ≡ answer_code why)
ReceiverOpensOver (Ok mib) W engine after answer =
    (engine ≡ None) × ((IsBegun mib W after × (answer ≡ answer_code Done)) ⊎
    ((after ≡ None) × (answer ≡ answer_code Memory)))

abbrev pub ReceiverOpensFrom : MibFields → Option World → Option World → Option ReceptionFields → ℕ → Type 0
ReceiverOpensFrom fields None engine after answer = (engine ≡ None) × (after ≡ None) × (answer ≡ answer_code NoEngine)
ReceiverOpensFrom fields (Some W) engine after answer = ReceiverOpensOver (opened fields W) W engine after answer

abbrev pub ReceiverOpens : MibFields → Option World → Option World → Option ReceptionFields → Option ReceptionFields →
    ℕ → Type 0
ReceiverOpens fields before engine None after answer = ReceiverOpensFrom fields before engine after answer
ReceiverOpens fields before engine (Some S) after answer = (engine ≡ before) × (after ≡ Some S)
    × (answer ≡ answer_code HasEngine)
