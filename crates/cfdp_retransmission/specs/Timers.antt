-- Timers that count their expiries.
--     restarted now                     a timer that begins now
--     expiry interval limit now timer   whether a timer has expired at a moment, and whether that reaches the limit
--     passed now timer expiry           a timer that was served: begun anew where it had expired
--     served_timer interval limit now timer  a timer that is served at a moment
use Rattle.std.specs.Prelude.{ℕ, ◌+◌, if◌then◌else◌, nat_lt, nat_le}
use Rattle.cfdp_retransmission.specs.declared.timer.Timer.{Timer}
use Rattle.cfdp_retransmission.specs.declared.timer.Expiry.{Expiry}
use Rattle.cfdp_retransmission.specs.declared.timer.Expiry.TheVariants.{NotDue, Again, Limit}

abbrev pub restarted : ℕ → Timer
restarted now = record { since = now; count = 0 }

abbrev pub expiry : ℕ → ℕ → ℕ → Timer → Expiry
expiry interval limit now timer =
    if nat_lt now (timer.since + interval) then NotDue
    else if nat_le limit (timer.count + 1) then Limit
    else Again

abbrev pub passed : ℕ → Timer → Expiry → Timer
passed now timer NotDue = timer
passed now timer Again = record { since = now; count = timer.count + 1 }
passed now timer Limit = restarted now

abbrev pub served_timer : ℕ → ℕ → ℕ → Timer → Timer
served_timer interval limit now timer = passed now timer (expiry interval limit now timer)
