-- What is kept of transactions beside the core.
--     SessionFields             of one, without where it is in memory
--     session_id s              the name of its transaction
--     found ss id               the session of this name, if there is one;  IsFound ss id: there is one
--     replaced ss new           the sessions with this one instead of the one of the same name
--     without_session ss id     the sessions without the one of this name
--     AreDistinct ss            no two of them have one name
--     IsEnding                  what is sent where a transaction is over fits a Finished PDU
use Rattle.std.specs.Prelude.{◌≡◌, ⊤, ℕ, ◌<◌, ◌^◌, Bool, if◌then◌else◌, List, [], ◌∷◌, Option, Some, None}
use Rattle.cfdp_status.specs.declared.transaction.TransactionId.{TransactionId}
use Rattle.cfdp_leases.specs.Leases.{is_same}
use Rattle.cfdp_pdus.specs.declared.header.Header.{Header}
use Rattle.cfdp_retransmission.specs.declared.timer.Timer.{Timer}
use Rattle.cfdp_transactions.specs.Entry.{id_of}
use Rattle.cfdp_sessions.specs.declared.session.Ending.{Ending}
use Rattle.cfdp_sessions.specs.declared.session.Stage.{Stage}

pub record SessionFields : Type 0 where
  pub header : Header
  pub stage : Stage
  pub timer : Timer
  pub alive_at : ℕ
  pub cause : Option ℕ
  pub is_abandoned : Bool
  pub has_changed : Bool  -- where it waits: the file was installed, or a request performed
  pub finished : List ℕ

abbrev pub session_id : SessionFields → TransactionId
session_id s = id_of s.header

abbrev pub found : List SessionFields → TransactionId → Option SessionFields
found [] id = None
found (s ∷ ss) id = if is_same (session_id s) id then Some s else found ss id

abbrev pub replaced : List SessionFields → SessionFields → List SessionFields
replaced [] new = []
replaced (s ∷ ss) new = if is_same (session_id s) (session_id new) then new ∷ ss else s ∷ replaced ss new

abbrev pub without_session : List SessionFields → TransactionId → List SessionFields
without_session [] id = []
without_session (s ∷ ss) id = if is_same (session_id s) id then ss else s ∷ without_session ss id

abbrev pub AreDistinct : List SessionFields → Type 0
AreDistinct [] = ⊤
AreDistinct (s ∷ ss) = (found ss (session_id s) ≡ None) × AreDistinct ss

pub record IsEnding (h : Header) (ending : Ending) : Type 0 where
  pub condition : ending.condition < 16
  pub at_fault : ending.at_fault < 256 ^ h.id_len
