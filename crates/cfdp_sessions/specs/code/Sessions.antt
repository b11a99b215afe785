-- What only the proofs of the code need of `Sessions`.
--     session_index ss id       its index: the number of sessions where there is none
--     IsSizedStage, IsSessionWith     what is true of every session: what is sent of it fits its PDUs
use Rattle.std.specs.Prelude.{◌≡◌, ⊤, ℕ, suc, ◌<◌, ◌≤◌, if◌then◌else◌, List, [], ◌∷◌, Option, Some, IfSome}
use Rattle.cfdp_status.specs.declared.transaction.TransactionId.{TransactionId}
use Rattle.cfdp_leases.specs.Leases.{is_same}
use Rattle.cfdp_pdus.specs.declared.header.Header.{Header}
use Rattle.cfdp_retransmission.specs.declared.timer.Timer.{Timer}
use Rattle.cfdp_pdus.specs.Canonical.{IsHeader, IsSizedEof}
use Rattle.cfdp_transactions.specs.Writable.{longest_finished}
use Rattle.cfdp_sessions.specs.declared.session.Stage.{Stage}
use Rattle.cfdp_sessions.specs.declared.session.Stage.TheVariants.{Held, Over}
use Rattle.cfdp_sessions.specs.Sessions.{SessionFields, session_id, found, IsEnding}

abbrev pub IsFound : List SessionFields → TransactionId → Type 0
IsFound ss id = (t : SessionFields) × (found ss id ≡ Some t)

abbrev pub session_index : List SessionFields → TransactionId → ℕ
session_index [] id = 0
session_index (s ∷ ss) id = if is_same (session_id s) id then 0 else suc (session_index ss id)

abbrev pub IsSizedStage : Header → Stage → Type 0
IsSizedStage h (Held eof) = IsSizedEof h.large eof
IsSizedStage h (Over ending) = IsEnding h ending
IsSizedStage h stage = ⊤

-- a timer's count is never above the moment from which it runs, since each expiry is later than the one before
pub record IsSessionWith (h : Header) (stage : Stage) (timer : Timer) (why : Option ℕ) (octets : ℕ) : Type 0 where
  pub header : IsHeader h
  pub sized : IsSizedStage h stage
  pub counted : timer.count ≤ timer.since
  pub cause : IfSome why (λ condition. condition < 16)
  pub finished : octets ≤ longest_finished
