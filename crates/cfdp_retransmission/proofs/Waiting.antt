-- A Finished PDU waits for its acknowledgement.
use Rattle.std.proofs.Common.{◌≡◌, inl, inr, ℕ, ◌+◌, ◌<◌, ◌≤◌, List, [], ◌∷◌, ◌++◌, length, map, Option, Some, None, refl, ap, ◌∙◌, arith}
use Rattle.std.proofs.lemmas.Bool.{cases_lt, lt-ltb, le-ltb, le-leb, lt-leb}
use Rattle.cfdp_retransmission.specs.declared.timer.Timer.{Timer}
use Rattle.cfdp_retransmission.specs.declared.timer.Expiry.{Expiry}
use Rattle.cfdp_retransmission.specs.declared.timer.Expiry.TheVariants.{NotDue, Again, Limit}
use Rattle.cfdp_retransmission.specs.Timers.{restarted, expiry}
use Rattle.cfdp_retransmission.specs.Finishing.{Happening, Time_is, Acknowledged, Other, Terms, waiting_after, next_by, sends_by, waits, times, AreSpaced, SentAtMostLimit, NoneAfterTheEnd, SentApart, EndsInTime}

-- which of the three it is, and why
pub data Why (interval limit now : ℕ) (timer : Timer) (found : Expiry) : Type 0 where
  Early : (e : found ≡ NotDue) → Why interval limit now timer found
  Due : (e : found ≡ Again) → (due : timer.since + interval ≤ now) → (room : timer.count + 1 < limit) → Why interval limit now timer found
  Over : (e : found ≡ Limit) → (due : timer.since + interval ≤ now) → (full : limit ≤ timer.count + 1) → Why interval limit now timer found

pub why : (interval limit now : ℕ) (timer : Timer) → Why interval limit now timer (expiry interval limit now timer)
why interval limit now timer = elim (cases_lt now (timer.since + interval)) [
  | inl early ↦ Early (rw (lt-ltb now (timer.since + interval) early) refl)
  | inr due ↦ elim (cases_lt (timer.count + 1) limit) [
    | inl room ↦ Due (rw (le-ltb now (timer.since + interval) due, lt-leb limit (timer.count + 1) room) refl) due room
    | inr full ↦ Over (rw (le-ltb now (timer.since + interval) due, le-leb limit (timer.count + 1) full) refl) due full
  ]
]

over : (terms : Terms) (hs : List Happening) → times terms None hs ≡ []
over terms [] = refl
over terms (h ∷ hs) = over terms hs

stays_over : (terms : Terms) (hs : List Happening) → waits terms None hs ≡ None
stays_over terms [] = refl
stays_over terms (h ∷ hs) = stays_over terms hs

-- at most --------------------------------------------------------------------------

abbrev Room : Terms → Timer → List Happening → Type 0
Room terms timer hs = timer.count + 1 ≤ terms.limit → timer.count + 1 + length (times terms (Some timer) hs) ≤ terms.limit

room_by : (terms : Terms) (timer : Timer) (now : ℕ) (hs : List Happening) (found : Expiry) → Why terms.interval terms.limit now timer found →
    ((t : Timer) → Room terms t hs) → timer.count + 1 ≤ terms.limit →
    timer.count + 1 + length (sends_by now found ++ times terms (next_by now timer found) hs) ≤ terms.limit
room_by terms timer now hs NotDue w ih h = ih timer h
room_by terms timer now hs Again (Early e) ih h = absurd cc
room_by terms timer now hs Again (Due e due room) ih h =
    omega (arith, ih (record { since = now; count = timer.count + 1 }) (omega (arith, room)))
room_by terms timer now hs Again (Over e due full) ih h = absurd cc
room_by terms timer now hs Limit w ih h = omega (arith, ap length (over terms hs), h)

room : (terms : Terms) (timer : Timer) (hs : List Happening) → Room terms timer hs
room terms timer [] h = omega (arith, h)
room terms timer (Time_is now ∷ hs) h =
    room_by terms timer now hs (expiry terms.interval terms.limit now timer) (why terms.interval terms.limit now timer) (λ t. room terms t hs) h
room terms timer (Acknowledged ∷ hs) h = omega (arith, ap length (over terms hs), h)
room terms timer (Other ∷ hs) h = room terms timer hs h

pub sent_at_most : SentAtMostLimit
sent_at_most terms at hs h = room terms (restarted at) hs h

-- apart ----------------------------------------------------------------------------

abbrev Apart : Terms → Timer → List Happening → Type 0
Apart terms timer hs = AreSpaced terms.interval timer.since (times terms (Some timer) hs)

apart_by : (terms : Terms) (timer : Timer) (now : ℕ) (hs : List Happening) (found : Expiry) → Why terms.interval terms.limit now timer found →
    ((t : Timer) → Apart terms t hs) → AreSpaced terms.interval timer.since (sends_by now found ++ times terms (next_by now timer found) hs)
apart_by terms timer now hs NotDue w ih = ih timer
apart_by terms timer now hs Again (Early e) ih = absurd cc
apart_by terms timer now hs Again (Due e due room) ih = (due, ih (record { since = now; count = timer.count + 1 }))
apart_by terms timer now hs Again (Over e due full) ih = absurd cc
apart_by terms timer now hs Limit w ih = rw (over terms hs) tt

apart : (terms : Terms) (timer : Timer) (hs : List Happening) → Apart terms timer hs
apart terms timer [] = tt
apart terms timer (Time_is now ∷ hs) =
    apart_by terms timer now hs (expiry terms.interval terms.limit now timer) (why terms.interval terms.limit now timer) (λ t. apart terms t hs)
apart terms timer (Acknowledged ∷ hs) = rw (over terms hs) tt
apart terms timer (Other ∷ hs) = apart terms timer hs

pub sent_apart : SentApart
sent_apart terms at hs = apart terms (restarted at) hs

-- the end --------------------------------------------------------------------------

acknowledged : (terms : Terms) (w : Option Timer) → waiting_after terms w Acknowledged ≡ None
acknowledged terms None = refl
acknowledged terms (Some timer) = refl

ended : (terms : Terms) (w : Option Timer) (before : List Happening) → waits terms w (before ++ Acknowledged ∷ []) ≡ None
ended terms w [] = acknowledged terms w
ended terms w (h ∷ before) = ended terms (waiting_after terms w h) before

pub none_after_the_end : NoneAfterTheEnd
none_after_the_end terms at before after =
    ap (λ (w : Option Timer). times terms w after) (ended terms (Some (restarted at)) before) ∙ over terms after

-- in time --------------------------------------------------------------------------

abbrev Ends : Terms → Timer → List ℕ → Type 0
Ends terms timer moments =
    timer.count + 1 ≤ terms.limit → AreSpaced terms.interval timer.since moments → terms.limit ≤ timer.count + length moments →
    waits terms (Some timer) (map Time_is moments) ≡ None

ends : (terms : Terms) (timer : Timer) (moments : List ℕ) → Ends terms timer moments
ends terms timer [] h apart long = absurd (omega (arith, h, long))
ends terms timer (now ∷ moments) h apart long =
    let due : timer.since + terms.interval ≤ now = apart.0 in
    elim (cases_lt (timer.count + 1) terms.limit) [
      | inl room ↦
          let found : expiry terms.interval terms.limit now timer ≡ Again =
          rw (le-ltb now (timer.since + terms.interval) due, lt-leb terms.limit (timer.count + 1) room) refl in
          ap (λ (t : Expiry). waits terms (next_by now timer t) (map Time_is moments)) found
          ∙ ends terms (record { since = now; count = timer.count + 1 }) moments (omega (arith, room)) apart.1 (omega (arith, long))
      | inr full ↦
          let found : expiry terms.interval terms.limit now timer ≡ Limit =
          rw (le-ltb now (timer.since + terms.interval) due, le-leb terms.limit (timer.count + 1) full) refl in
          ap (λ (t : Expiry). waits terms (next_by now timer t) (map Time_is moments)) found ∙ stays_over terms (map Time_is moments)
    ]

pub ends_in_time : EndsInTime
ends_in_time terms at moments h apart long = ends terms (restarted at) moments h apart (omega (arith, long))
