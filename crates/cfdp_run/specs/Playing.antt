-- How `cfdp run` plays what a script hands to a receiving entity: after a PDU, after a cancel and after each timer that
-- is served, all work is done and each outcome is taken.
--     after_turn R i, after_turns   the state after an input that is handed in, and after several, one after the other
--     played R inputs           the text of some inputs, one after the other
--     next_settled now R        the input that settles most at once: an item is performed, or else an outcome is taken
--     settling left now R       the inputs by which all is settled, this many at most
--     settled_after R i         an input, and those by which all is settled after it
--     most_timers               how many timers are served at most at one moment
--     is_nothing became         no timer was due, or none is served at a moment that is too far ahead
--     passing left now R        the inputs by which time passes: a timer that is due is served, and all is settled,
--                               until none is due
--     heard_inputs, heard_text  the inputs of octets that came, and their text: it is one line where they were dropped
--     Plays R inputs N before after     the inputs lead from R to N, and their text comes after another one
use Rattle.std.specs.Prelude.{◌≡◌, ℕ, zero, suc, Bool, true, false, if◌then◌else◌, List, [], ◌∷◌, ◌++◌, Option, Some, None, is_some, Result, Ok, Err}
use Rattle.cfdp_transactions.specs.MostSettled.{most_settled}
use Rattle.cfdp_transactions.specs.World.{next_runnable}
use Rattle.cfdp_receiver.specs.declared.reading.Dropped.{Dropped}
use Rattle.cfdp_receiver.specs.State.{State, Input, Expire, Work, Finish}
use Rattle.cfdp_receiver.specs.declared.indication.Became.{Became}
use Rattle.cfdp_receiver.specs.declared.indication.Became.TheVariants.{Nothing, TooFarAhead}
use Rattle.cfdp_receiver.specs.Due.{first_over}
use Rattle.cfdp_receiver.specs.Turning.{turn}
use Rattle.cfdp_reports.specs.Reports.{answer_text, dropped_line}

abbrev pub after_turn : State → Input → State
after_turn R i = (turn R i).0

abbrev pub after_turns : State → List Input → State
after_turns R [] = R
after_turns R (i ∷ is) = after_turns (after_turn R i) is

abbrev pub turn_text : State → Input → List ℕ
turn_text R i = answer_text R.mib (turn R i).1

abbrev pub played : State → List Input → List ℕ
played R [] = []
played R (i ∷ is) = turn_text R i ++ played (after_turn R i) is

-- ---- all is settled

abbrev pub next_settled : ℕ → State → Option Input
next_settled now R =
    if is_some (next_runnable R.world.table) then Some (Work now)
    else if is_some (first_over R.world R.sessions) then Some (Finish now)
    else None

abbrev pub settled_by : Option Input → (Input → List Input) → List Input
settled_by None later = []
settled_by (Some i) later = i ∷ later i

unfoldable pub settling : ℕ → ℕ → State → List Input
settling zero now R = []
settling (suc left) now R = settled_by (next_settled now R) (λ i. settling left now (after_turn R i))

abbrev pub settled_after : ℕ → State → Input → List Input
settled_after now R i = i ∷ settling most_settled now (after_turn R i)

-- ---- time passes

-- a timer for each session and its Keep Alive PDUs; and then none is due
abbrev pub most_timers : ℕ
most_timers = 129

abbrev pub is_nothing : Became → Bool
is_nothing Nothing = true
is_nothing TooFarAhead = true
is_nothing became = false

unfoldable pub passing : ℕ → ℕ → State → List Input
passing zero now R = []
passing (suc left) now R =
    if is_nothing (turn R (Expire now)).1.became then Expire now ∷ []
    else settled_after now R (Expire now) ++ passing left now (after_turns R (settled_after now R (Expire now)))

-- ---- octets come

abbrev pub heard_inputs : ℕ → State → Result Input Dropped → List Input
heard_inputs now R (Ok i) = settled_after now R i
heard_inputs now R (Err why) = []

abbrev pub heard_text : ℕ → State → Result Input Dropped → List ℕ
heard_text now R (Ok i) = played R (settled_after now R i)
heard_text now R (Err why) = dropped_line why

-- from the state `R` some inputs lead to `N`, and their text comes after `before`
pub record Plays (R : State) (inputs : List Input) (N : State) (before after : List ℕ) : Type 0 where
  pub ends : N ≡ after_turns R inputs
  pub writes : after ≡ before ++ played R inputs
