-- What the code keeps and answers, and a turn of a state that is as late as its input.
--     StateMachineFields        the state, the Finished PDU of the transaction that was closed last when its outcome
--                               was taken, and how many turns were made, modulo 2^64
--     AnswerParts               an answer, with the name of the transaction whose Finished PDU is sent instead of its
--                               octets, and with the number of its turn
--     turn_after turns          the number of the next turn;  is_last M a: the answer is that of the last turn
--     finished_for M id         these octets: they are kept with the session, or where the session is closed, beside
--     answer_in M a             the answer with them
--     listed option             the list of what is there
--     is_any_due, has_come                  whether a timer is due;  whether a moment has come
--     mib_fault mib             what is wrong with a management information base, in the order of tests;  IsMib mib:
--                               nothing
--     IsNotMade mib W why       why a receiver was not made
use Rattle.std.specs.Prelude.{◌≡◌, ℕ, ◌+◌, ◌%◌, ◌^◌, ◌≤◌, Bool, true, false, not, ◌&&◌, ◌||◌, ◌==◌, if◌then◌else◌, nat_le, nat_lt, List, [], ◌∷◌, length, map, Option, Some, None}
use Rattle.cfdp_status.specs.declared.transaction.TransactionId.{TransactionId}
use Rattle.cfdp_pdus.specs.declared.header.Header.{Header}
use Rattle.cfdp_directives.specs.Reading.{NakFields}
use Rattle.cfdp_directives.specs.declared.ack.Ack.{Ack}
use Rattle.cfdp_directives.specs.declared.keep_alive.KeepAlive.{KeepAlive}
use Rattle.cfdp_sessions.specs.Sessions.{SessionFields}
use Rattle.cfdp_transactions.specs.World.{World}
use Rattle.cfdp_receiver.specs.declared.indication.Became.{Became}
use Rattle.cfdp_receiver.specs.declared.indication.Indication.{Indication}
use Rattle.cfdp_receiver.specs.declared.mib.Mib.{Mib}
use Rattle.cfdp_receiver.specs.declared.receiver.NotMade.{NotMade}
use Rattle.cfdp_receiver.specs.declared.receiver.NotMade.TheVariants as not_made
use Rattle.cfdp_receiver.specs.declared.mib.MibFault.{MibFault}
use Rattle.cfdp_receiver.specs.declared.mib.MibFault.TheVariants as faults
use Rattle.cfdp_receiver.specs.State.{State, AnswerFields, session_of}
use Rattle.cfdp_receiver.specs.Due.{Due, Nothing_due, IsSet}

pub record StateMachineFields : Type 0 where
  pub state : State
  pub last_finished : List ℕ
  pub turns : ℕ

pub record AnswerParts : Type 0 where
  pub acks : List (Header × Ack)
  pub naks : List NakFields
  pub keep_alives : List (Header × KeepAlive)
  pub finished : List TransactionId
  pub indications : List Indication
  pub became : Became
  pub turn : ℕ

abbrev pub turn_after : ℕ → ℕ
turn_after turns = (turns + 1) % 2 ^ 64

abbrev pub is_last : StateMachineFields → AnswerParts → Bool
is_last M a = a.turn == M.turns

abbrev pub listed : {X : Type 0} → Option X → List X
listed None = []
listed (Some x) = x ∷ []

abbrev pub finished_by : List ℕ → Option SessionFields → List ℕ
finished_by last None = last
finished_by last (Some s) = s.finished

abbrev pub finished_for : StateMachineFields → TransactionId → List ℕ
finished_for M id = finished_by M.last_finished (session_of M.state id)

abbrev pub answer_in : StateMachineFields → AnswerParts → AnswerFields
answer_in M a = record {
  acks = a.acks;
  naks = a.naks;
  keep_alives = a.keep_alives;
  finished = map (finished_for M) a.finished;
  indications = a.indications;
  became = a.became;
}

abbrev pub is_any_due : Due → Bool
is_any_due Nothing_due = false
is_any_due due = true

abbrev pub has_come : Option ℕ → ℕ → Bool
has_come None now = false
has_come (Some moment) now = nat_le moment now

abbrev pub is_no_time : Option ℕ → Bool
is_no_time None = false
is_no_time (Some interval) = interval == 0

abbrev pub lacks_time : Mib → Bool
lacks_time mib =
    (mib.ack.interval == 0) || (mib.nak.interval == 0) || (mib.check.interval == 0) || (mib.inactivity.interval == 0)
    || is_no_time mib.keep_alive || is_no_time mib.most_ahead

abbrev pub is_limit : ℕ → Bool
is_limit limit = nat_le 1 limit && nat_le limit 1000

abbrev pub mib_fault : Mib → Option MibFault
mib_fault mib =
    if lacks_time mib then Some faults.Interval
    else if not (is_limit mib.ack.limit && is_limit mib.nak.limit) then Some faults.Limit
    else if nat_lt mib.longest_nak 72 then Some faults.LongestNak
    else None

-- each NAK PDU has room for one segment request at least
pub record IsMib (mib : Mib) : Type 0 where
  pub set : IsSet mib
  pub longest : 72 ≤ mib.longest_nak

abbrev pub IsNotMade : Mib → World → NotMade → Type 0
IsNotMade mib W (not_made.Mib fault) = mib_fault mib ≡ Some fault
IsNotMade mib W not_made.HasTransactions = (mib_fault mib ≡ None) × (1 ≤ length W.table)
IsNotMade mib W not_made.Memory = (mib_fault mib ≡ None) × (W.table ≡ [])
