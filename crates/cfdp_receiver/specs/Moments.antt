-- What is true of the moments that a driver hands in.
--     TicksAreCounted           a timer is due as if its own time went on by all ticks that passed, however many
--     LeftStays                 what is left of each timer stays where the driver's clock is moved: a timer is due so
--                               many ticks after it as it would have been after the latest moment
--     NotTakenStays             an input whose moment is too far ahead is answered so, and changes nothing
--     TakenElse                 every other input is taken; without a limit each is
--     MovedAlways               the clock can be moved to every moment
use Rattle.std.specs.Prelude.{◌≡◌, ℕ, ◌+◌, ◌-◌, ◌≤◌, ◌<◌, ◌^◌, true, false, nat_le, None}
use Rattle.cfdp_receiver.specs.declared.indication.Became.TheVariants.{TooFarAhead}
use Rattle.cfdp_receiver.specs.State.{State, Input, ClockMoved, now_of}
use Rattle.cfdp_receiver.specs.Due.{first_due}
use Rattle.cfdp_receiver.specs.Handing.{later, longest_interval}
use Rattle.cfdp_receiver.specs.Turning.{after_input, is_too_far, parts, quiet, turn}

-- own times are below 2^64: no driver's clock counts so many ticks
abbrev pub TicksAreCounted : Type 0
TicksAreCounted =
    (R : State) (now since interval : ℕ) → interval ≤ longest_interval → since ≤ R.now → R.seen ≤ now →
    R.now + longest_interval < 2 ^ 64 →
    nat_le (since + interval) (later now R).now ≡ nat_le (since + interval) (R.now + (now - R.seen))

abbrev pub LeftStays : Type 0
LeftStays = (R : State) (moment ticks : ℕ) →
    ((after_input R (ClockMoved moment)).sessions ≡ R.sessions)
    × (first_due (later (moment + ticks) (after_input R (ClockMoved moment))) R.sessions
    ≡ first_due (later (R.seen + ticks) R) R.sessions)

abbrev pub NotTakenStays : Type 0
NotTakenStays = (R : State) (i : Input) → is_too_far R (now_of i) ≡ true → turn R i ≡ (R, quiet TooFarAhead)

abbrev pub TakenElse : Type 0
TakenElse = (R : State) (i : Input) →
    (is_too_far R (now_of i) ≡ false → turn R i ≡ (after_input R i, (parts R i).answer))
    × (R.mib.most_ahead ≡ None → turn R i ≡ (after_input R i, (parts R i).answer))

abbrev pub MovedAlways : Type 0
MovedAlways = (R : State) (moment : ℕ) → (turn R (ClockMoved moment)).0 ≡ record R { seen = moment }
