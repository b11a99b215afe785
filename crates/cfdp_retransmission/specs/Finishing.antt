-- A Finished PDU that was sent and waits for its acknowledgement (CCSDS 727.0-B-5, the positive acknowledgement
-- procedures).
--     Happening                      what happens to it: a moment passes, its acknowledgement comes, or anything else
--     Terms                          the interval and the limit of its timer
--     waiting_after terms waiting happening  the timer after it; None once the PDU is no longer waited for
--     sends terms waiting happening  the moment at which it is sent again, if it is
--     waits, times                   the timer after several happenings;  the moments at which it was sent again, in
--                                    order
--     AreSpaced interval from times  each moment is at least an interval after the one before, the first after `from`
--     SentAtMostLimit, NoneAfterTheEnd, SentApart, EndsInTime  the laws
use Rattle.std.specs.Prelude.{◌≡◌, ⊤, ℕ, ◌+◌, ◌≤◌, List, [], ◌∷◌, ◌++◌, length, map, Option, Some, None}
use Rattle.cfdp_retransmission.specs.declared.timer.Timer.{Timer}
use Rattle.cfdp_retransmission.specs.declared.timer.Expiry.{Expiry}
use Rattle.cfdp_retransmission.specs.declared.timer.Expiry.TheVariants.{NotDue, Again, Limit}
use Rattle.cfdp_retransmission.specs.Timers.{restarted, expiry}

pub data Happening : Type 0 where
  Time_is : (now : ℕ) → Happening
  Acknowledged : Happening
  -- a PDU of the transaction, or anything of another one
  Other : Happening

pub record Terms : Type 0 where
  pub interval : ℕ
  pub limit : ℕ

abbrev pub next_by : ℕ → Timer → Expiry → Option Timer
next_by now timer NotDue = Some timer
next_by now timer Again = Some (record { since = now; count = timer.count + 1 })
next_by now timer Limit = None

abbrev pub waiting_after : Terms → Option Timer → Happening → Option Timer
waiting_after terms None happening = None
waiting_after terms (Some timer) (Time_is now) = next_by now timer (expiry terms.interval terms.limit now timer)
waiting_after terms (Some timer) Acknowledged = None
waiting_after terms (Some timer) Other = Some timer

abbrev pub sends_by : ℕ → Expiry → List ℕ
sends_by now NotDue = []
sends_by now Again = now ∷ []
sends_by now Limit = []

abbrev pub sends : Terms → Option Timer → Happening → List ℕ
sends terms None happening = []
sends terms (Some timer) (Time_is now) = sends_by now (expiry terms.interval terms.limit now timer)
sends terms (Some timer) Acknowledged = []
sends terms (Some timer) Other = []

abbrev pub waits : Terms → Option Timer → List Happening → Option Timer
waits terms waiting [] = waiting
waits terms waiting (happening ∷ happenings) = waits terms (waiting_after terms waiting happening) happenings

abbrev pub times : Terms → Option Timer → List Happening → List ℕ
times terms waiting [] = []
times terms waiting (happening ∷ happenings) = sends terms waiting happening
    ++ times terms (waiting_after terms waiting happening) happenings

abbrev pub AreSpaced : ℕ → ℕ → List ℕ → Type 0
AreSpaced interval from [] = ⊤
AreSpaced interval from (time ∷ times) = (from + interval ≤ time) × AreSpaced interval time times

-- it is sent first at `at`
abbrev pub SentAtMostLimit : Type 0
SentAtMostLimit = (terms : Terms) (at : ℕ) (happenings : List Happening) → 1 ≤ terms.limit →
    1 + length (times terms (Some (restarted at)) happenings) ≤ terms.limit

abbrev pub NoneAfterTheEnd : Type 0
NoneAfterTheEnd =
    (terms : Terms) (at : ℕ) (before after : List Happening) →
    times terms (waits terms (Some (restarted at)) (before ++ Acknowledged ∷ [])) after ≡ []

abbrev pub SentApart : Type 0
SentApart = (terms : Terms) (at : ℕ) (happenings : List Happening) →
    AreSpaced terms.interval at (times terms (Some (restarted at)) happenings)

abbrev pub EndsInTime : Type 0
EndsInTime =
    (terms : Terms) (at : ℕ) (moments : List ℕ) → 1 ≤ terms.limit → AreSpaced terms.interval at moments →
    terms.limit ≤ length moments →
    waits terms (Some (restarted at)) (map Time_is moments) ≡ None
