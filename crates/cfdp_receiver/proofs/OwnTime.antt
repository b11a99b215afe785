-- The receiver's own time.
use Rattle.std.specs.Prelude.{max, min, nat_le, nat_lt}
use Rattle.std.proofs.Common.{◌≡◌, ℕ, ◌+◌, ◌-◌, ◌≤◌, ◌<◌, ◌^◌, false, List, [], ◌∷◌, Bool, Option, Some, None, inl, inr, refl, sym, ap, ◌∙◌, arith}
use Rattle.std.proofs.lemmas.Bool.{cond-true, cond-false, cases_Bool, both_ways, leb-true, le-leb, lt-leb, le-ltb}
use Rattle.cfdp_sessions.specs.Sessions.{SessionFields}
use Rattle.cfdp_receiver.specs.declared.indication.Became.TheVariants.{TooFarAhead}
use Rattle.cfdp_retransmission.specs.declared.timer.Expiry.{Expiry}
use Rattle.cfdp_receiver.specs.State.{State, Input, MetadataPdu, DataPdu, EofPdu, AckPdu, PromptPdu, OtherPdu, Expire, Work, Finish, CancelAsked, ForgetAsked, ClockMoved, NotTaken, now_of}
use Rattle.cfdp_receiver.specs.Due.{due_by, expiry_of, first_due, is_alive_due}
use Rattle.cfdp_receiver.specs.Handing.{later}
use Rattle.cfdp_receiver.specs.Turning.{after_input, is_ahead, is_too_far, parts, quiet, seen_after, turn}
use Rattle.cfdp_receiver.specs.Moments.{TicksAreCounted, LeftStays, NotTakenStays, TakenElse, MovedAlways}

-- ---- no moment

own_zero : (own seen : ℕ) → max own (min (own + min (0 - seen) 4294967295 - (seen - 0)) 18446744073709551615) ≡ own
own_zero own seen = omega arith

seen_zero : (seen : ℕ) → max seen 0 ≡ seen
seen_zero seen = omega arith

pub no_moment : (R : State) → later 0 R ≡ R
no_moment R = ap (λ (n : ℕ). record R { now = n; seen = max R.seen 0 }) (own_zero R.now R.seen) ∙ ap (λ (n : ℕ). record R { seen = n }) (seen_zero R.seen)

-- ---- a moment that is too far ahead

pub not_taken_stays : NotTakenStays
not_taken_stays R i far =
    ap (λ (x : Input). (after_input R x, (parts R x).answer)) (cond-true (is_too_far R (now_of i)) NotTaken i far)
    ∙ ap (λ (S : State). (S, quiet TooFarAhead)) (no_moment R)

taken : (R : State) (i : Input) → is_too_far R (now_of i) ≡ false → turn R i ≡ (after_input R i, (parts R i).answer)
taken R i near = ap (λ (x : Input). (after_input R x, (parts R x).answer)) (cond-false (is_too_far R (now_of i)) NotTaken i near)

pub taken_else : TakenElse
taken_else R i = (taken R i, λ none. taken R i (ap (λ (most : Option ℕ). is_ahead R.seen most (now_of i)) none))

-- no moment is before each other one
never_ahead : (seen most : ℕ) → nat_lt (seen + most) 0 ≡ false
never_ahead seen most = le-ltb (seen + most) 0 (omega arith)

near_by : (seen : ℕ) (most : Option ℕ) → is_ahead seen most 0 ≡ false
near_by seen None = refl
near_by seen (Some most) = never_ahead seen most

pub near_zero : (R : State) → is_too_far R 0 ≡ false
near_zero R = near_by R.seen R.mib.most_ahead

-- ---- the clock is moved

pub clock_moved : (R : State) (moment : ℕ) → after_input R (ClockMoved moment) ≡ record R { seen = moment }
clock_moved R moment = ap (λ (n : ℕ). record R { now = n; seen = moment }) (own_zero R.now R.seen)

pub moved_always : MovedAlways
moved_always R moment = ap (λ x. x.0) (taken R (ClockMoved moment) (near_zero R)) ∙ clock_moved R moment

-- what is due does not depend on what the driver's clock says, nor on the list of all sessions
due_by_time : (R S : State) (ss : List SessionFields) → ((s : SessionFields) → expiry_of R s ≡ expiry_of S s) →
    ((s : SessionFields) → is_alive_due R s ≡ is_alive_due S s) → first_due R ss ≡ first_due S ss
due_by_time R S [] stage alive = refl
due_by_time R S (s ∷ ss) stage alive =
    ap (λ (x : Expiry). due_by x (is_alive_due R s) s (first_due R ss)) (stage s)
    ∙ ap (λ (x : Bool). due_by (expiry_of S s) x s (first_due R ss)) (alive s)
    ∙ ap (due_by (expiry_of S s) (is_alive_due S s) s) (due_by_time R S ss stage alive)

same_time : (R : State) (seen own : ℕ) (at : ℕ) (ss : List SessionFields) → own ≡ at →
    first_due (record R { now = own; seen = seen }) ss ≡ first_due (record R { now = at }) ss
same_time R seen own at ss e =
    ap (λ (n : ℕ). first_due (record R { now = n; seen = seen }) ss) e
    ∙ due_by_time (record R { now = at; seen = seen }) (record R { now = at }) ss (λ s. refl) (λ s. refl)

own_after : (own moment ticks : ℕ) →
    min (own + min (moment + ticks - moment) 4294967295 - (moment - (moment + ticks))) 18446744073709551615
    ≡ min (own + min ticks 4294967295) 18446744073709551615
own_after own moment ticks = omega arith

pub left_stays : LeftStays
left_stays R moment ticks =
    let S = after_input R (ClockMoved moment) in
    let at = max R.now (min (R.now + min ticks 4294967295) 18446744073709551615) in
    let there : (later (moment + ticks) S).now ≡ at =
    ap (λ (n : ℕ). max n (min (n + min (moment + ticks - moment) 4294967295 - (moment - (moment + ticks))) 18446744073709551615)) (own_zero R.now R.seen)
    ∙ ap (max R.now) (own_after R.now moment ticks) in
    let here : (later (R.seen + ticks) R).now ≡ at = ap (max R.now) (own_after R.now R.seen ticks) in
    let moved : first_due (later (moment + ticks) S) R.sessions ≡ first_due (record R { now = at }) R.sessions =
    same_time R (max moment (moment + ticks)) (later (moment + ticks) S).now at R.sessions there in
    (refl, moved ∙ sym (same_time R (max R.seen (R.seen + ticks)) (later (R.seen + ticks) R).now at R.sessions here))

-- ---- ticks are counted

same_test : (a x y : ℕ) → (a ≤ x → a ≤ y) → (a ≤ y → a ≤ x) → nat_le a x ≡ nat_le a y
same_test a x y there back = elim (cases_Bool (nat_le a x)) [
  | inl here ↦ here ∙ sym (le-leb a y (there (leb-true a x here)))
  | inr over ↦ elim (cases_Bool (nat_le a y)) [
    | inl there_too ↦ absurd (both_ways (nat_le a x) over (le-leb a x (back (leb-true a y there_too))))
    | inr other ↦ over ∙ sym other
  ]
]

-- in plain numbers
counted_there : (own seen now since interval : ℕ) → interval ≤ 4294967295 → since ≤ own → seen ≤ now →
    since + interval ≤ max own (min (own + min (now - seen) 4294967295 - (seen - now)) 18446744073709551615) → since + interval ≤ own + (now - seen)
counted_there own seen now since interval short began ahead due = omega (arith, short, began, ahead, due)

counted_back : (own seen now since interval : ℕ) → interval ≤ 4294967295 → since ≤ own → seen ≤ now → own + 4294967295 < 2 ^ 64 →
    since + interval ≤ own + (now - seen) → since + interval ≤ max own (min (own + min (now - seen) 4294967295 - (seen - now)) 18446744073709551615)
counted_back own seen now since interval short began ahead small due = omega (arith, short, began, ahead, small, due)

pub ticks_are_counted : TicksAreCounted
ticks_are_counted R now since interval short began ahead small =
    same_test (since + interval) (later now R).now (R.now + (now - R.seen)) (counted_there R.now R.seen now since interval short began ahead)
    (counted_back R.now R.seen now since interval short began ahead small)

-- ---- a moment that came is not ahead

ahead_by : (seen most now : ℕ) → now ≤ seen → nat_lt (seen + most) now ≡ false
ahead_by seen most now later = le-ltb (seen + most) now (omega (arith, later))

not_ahead : (seen now : ℕ) (most : Option ℕ) → now ≤ seen → is_ahead seen most now ≡ false
not_ahead seen now None later = refl
not_ahead seen now (Some most) later = ahead_by seen most now later

pub seen_it : (R : State) (i : Input) → now_of i ≤ seen_after R i
seen_it R (MetadataPdu now h m) = omega arith
seen_it R (DataPdu now h piece) = omega arith
seen_it R (EofPdu now h eof) = omega arith
seen_it R (AckPdu now h ack) = omega arith
seen_it R (PromptPdu now h prompt) = omega arith
seen_it R (OtherPdu now h) = omega arith
seen_it R (Expire now) = omega arith
seen_it R (Work now) = omega arith
seen_it R (Finish now) = omega arith
seen_it R (CancelAsked now id) = omega arith
seen_it R ForgetAsked = omega arith
seen_it R (ClockMoved now) = omega arith
seen_it R NotTaken = omega arith

-- at the moment of the last input, or before, inputs are taken
pub stays_timely : (R : State) (i : Input) (now : ℕ) → now ≤ now_of i → is_too_far (after_input R i) now ≡ false
stays_timely R i now not_later = not_ahead (seen_after R i) now R.mib.most_ahead (omega (arith, not_later, seen_it R i))

-- ---- by the driver's clock

by_clock_none : (own seen time now : ℕ) → 1 ≤ time → own ≤ 18446744073709551615 → 4294967295 < time - own →
    false ≡ nat_le time (min (own + min (now - seen) 4294967295 - (seen - now)) 18446744073709551615)
by_clock_none own seen time now some fits over = sym (lt-leb time _ (omega (arith, fits, over)))
