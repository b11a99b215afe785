-- Which timer is due, and which transaction is over.
--     terms_at mib checks acknowledged timer at    the interval and the limit of a stage's timer, where it has one
--     expiry_of R s             whether the timer of a session's stage has expired
--     is_alive_due R s          a Keep Alive PDU is due
--     Due, first_due R ss       the first session with a timer that is due, and which timer: that of its stage comes
--                               before Keep Alive
--     first_over W ss           the first session that is over
--     IsSet mib                 each interval is at least one tick
--     fault_at, handler_at      the condition code of a stage's timer at its limit (§5.2.2), and what is done then
use Rattle.std.specs.Prelude.{◌≡◌, ℕ, ◌+◌, ◌≤◌, Bool, true, false, ◌&&◌, if◌then◌else◌, nat_le, List, [], ◌∷◌, Option, Some, None}
use Rattle.cfdp_pdus.specs.Codes.{positive_ack_limit_reached, nak_limit_reached, inactivity_detected, check_limit_reached}
use Rattle.cfdp_retransmission.specs.declared.timer.Timer.{Timer}
use Rattle.cfdp_retransmission.specs.declared.timer.Expiry.{Expiry}
use Rattle.cfdp_retransmission.specs.declared.timer.Expiry.TheVariants.{NotDue, Again, Limit}
use Rattle.cfdp_retransmission.specs.Timers.{expiry}
use Rattle.cfdp_sessions.specs.Sessions.{SessionFields}
use Rattle.cfdp_transactions.specs.World.{World}
use Rattle.cfdp_receiver.specs.declared.mib.Handler.{Handler}
use Rattle.cfdp_receiver.specs.declared.mib.Mib.{Mib}
use Rattle.cfdp_receiver.specs.State.{State, JointPhase, At_held, At_receiving, At_awaiting, At_executing, At_over, At_waiting, at_of}

-- of every management information base that was checked
pub record IsSet (mib : Mib) : Type 0 where
  pub ack : 1 ≤ mib.ack.interval
  pub nak : 1 ≤ mib.nak.interval
  pub check : 1 ≤ mib.check.interval
  pub inactivity : 1 ≤ mib.inactivity.interval
  pub keep_alive : (interval : ℕ) → mib.keep_alive ≡ Some interval → 1 ≤ interval

-- the core counts the checks that were made, and they are not in a row: so the limit is set by its count
abbrev pub check_limit : ℕ → ℕ → Timer → ℕ
check_limit checks made timer = if nat_le checks (made + 1) then timer.count + 1 else timer.count + 2

abbrev pub terms_at : Mib → ℕ → Bool → Timer → JointPhase → Option (ℕ × ℕ)
terms_at mib checks acknowledged timer At_held = Some (mib.nak.interval, mib.nak.limit)
terms_at mib checks acknowledged timer At_receiving = Some (mib.inactivity.interval, 1)
terms_at mib checks true timer (At_awaiting made) = Some (mib.nak.interval, mib.nak.limit)
terms_at mib checks false timer (At_awaiting made) = Some (mib.check.interval, check_limit checks made timer)
terms_at mib checks acknowledged timer At_executing = None
terms_at mib checks acknowledged timer At_over = None
terms_at mib checks acknowledged timer At_waiting = Some (mib.ack.interval, mib.ack.limit)

abbrev pub expiry_by : ℕ → Timer → Option (ℕ × ℕ) → Expiry
expiry_by now timer None = NotDue
expiry_by now timer (Some terms) = expiry terms.0 terms.1 now timer

abbrev pub expiry_of : State → SessionFields → Expiry
expiry_of R s = expiry_by R.now s.timer (terms_at R.mib R.world.config.checks s.header.acknowledged s.timer
    (at_of R.world s))

abbrev pub is_receiving_at : JointPhase → Bool
is_receiving_at At_receiving = true
is_receiving_at at = false

abbrev pub has_passed : Option ℕ → ℕ → ℕ → Bool
has_passed None now since = false
has_passed (Some interval) now since = nat_le (since + interval) now

abbrev pub is_alive_due : State → SessionFields → Bool
is_alive_due R s = s.header.acknowledged && is_receiving_at (at_of R.world s)
    && has_passed R.mib.keep_alive R.now s.alive_at

pub data Due : Type 0 where
  Nothing_due : Due
  Stage_due : (session : SessionFields) → (limit : Bool) → Due
  Alive_due : (session : SessionFields) → Due

abbrev pub due_by : Expiry → Bool → SessionFields → Due → Due
due_by Again alive s later = Stage_due s false
due_by Limit alive s later = Stage_due s true
due_by NotDue true s later = Alive_due s
due_by NotDue false s later = later

abbrev pub first_due : State → List SessionFields → Due
first_due R [] = Nothing_due
first_due R (s ∷ ss) = due_by (expiry_of R s) (is_alive_due R s) s (first_due R ss)

abbrev pub is_over : JointPhase → Bool
is_over At_over = true
is_over at = false

abbrev pub first_over : World → List SessionFields → Option SessionFields
first_over W [] = None
first_over W (s ∷ ss) = if is_over (at_of W s) then Some s else first_over W ss

abbrev pub fault_at : Bool → JointPhase → ℕ
fault_at acknowledged At_receiving = inactivity_detected
fault_at acknowledged At_waiting = positive_ack_limit_reached
fault_at false (At_awaiting made) = check_limit_reached
fault_at acknowledged at = nak_limit_reached

abbrev pub handler_at : Mib → Bool → JointPhase → Handler
handler_at mib acknowledged At_receiving = mib.inactivity.at_limit
handler_at mib acknowledged At_waiting = mib.ack.at_limit
handler_at mib false (At_awaiting made) = mib.check.at_limit
handler_at mib acknowledged at = mib.nak.at_limit
