-- Receipts that are the journal: each of its entries is one of them, and each seat's entries are its receipts.
use Rattle.std.proofs.Common.{◌≡◌, ◌≢◌, ◌⊎◌, ℕ, suc, ◌+◌, ◌-◌, ◌≤◌, ◌<◌, Bool, ◌||◌, ◌==◌, List, [], ◌∷◌, ◌++◌, length, filter, cond, Some, None, slice_get, inl, inr, refl, sym, ap, ◌∙◌, subst, add-zero, eq-eqb, ne_eqb, arith, rules}
use Rattle.std.proofs.Math.Nat.{eq-or-lt_of_le}
use Rattle.std.specs.Prelude.{⊤, IsTrue, IsFalse}
use Rattle.std.specs.List.{AllByRecursion, list_any}
use Rattle.std.proofs.lemmas.List.Folds.{list_any-append}
use Rattle.cfdp_transactions.specs.declared.event.Event.{Event}
use Rattle.cfdp_transactions.specs.World.{World}
use Rattle.cfdp_transactions.specs.Writable.{IsReadable, FitsReply, OutcomesFit}
use Rattle.cfdp_engine.specs.declared.journal_entry.JournalEntry.{JournalEntry}
use Rattle.cfdp_engine.specs.declared.receipt.Receipt.{Receipt}
use Rattle.cfdp_engine.specs.Journal.{IsHistory, journal_events, replies_of}
use Rattle.cfdp_engine.specs.Seats.{Seated, receipts_in, is_number_taken, SeatsDiffer, AreEntered, AllEntered, IsReconciled}
use Rattle.cfdp_engine.specs.Sharing.{receipt_events}
use Rattle.cfdp_links.specs.Linked.{AreHanded, HasReadable, Handed, events_by}
use Rattle.cfdp_links.specs.Links.{Said}
use Rattle.std.proofs.Math.Bool.{or-true}
use Rattle.cfdp_engine.proofs.Faults.{both}

-- ---- numbers that differ

abbrev NoneHas : ℕ → List Seated → Type 0
NoneHas number [] = ⊤
NoneHas number (s ∷ ss) = (s.number ≢ number) × NoneHas number ss

abbrev Differ : List Seated → Type 0
Differ [] = ⊤
Differ (s ∷ ss) = NoneHas s.number ss × Differ ss

taken_more : (before : List Seated) (s : Seated) (number : ℕ) → IsTrue (is_number_taken before number) → IsTrue (is_number_taken (before ++ s ∷ []) number)
taken_more before s number taken =
    list_any-append (λ t. t.number == number) before (s ∷ [])
    ∙ ap (λ (b : Bool). b || list_any (λ t. t.number == number) (s ∷ [])) taken

taken_here : (before : List Seated) (s : Seated) → IsTrue (is_number_taken (before ++ s ∷ []) s.number)
taken_here [] s = search rules
taken_here (t ∷ ts) s = ap (λ (b : Bool). (t.number == s.number) || b) (taken_here ts s) ∙ or-true (t.number == s.number)

none_has : (before seats : List Seated) (number : ℕ) → IsTrue (is_number_taken before number) → SeatsDiffer before seats → NoneHas number seats
none_has before [] number taken apart = tt
none_has before (s ∷ ss) number taken apart = (
  (λ same. both (is_number_taken before number) taken (subst (λ (n : ℕ). IsFalse (is_number_taken before n)) same apart.0)),
  none_has (before ++ s ∷ []) ss number (taken_more before s number taken) apart.1,
)

differ : (before seats : List Seated) → SeatsDiffer before seats → Differ seats
differ before [] apart = tt
differ before (s ∷ ss) apart = (none_has (before ++ s ∷ []) ss s.number (taken_here before s) apart.1, differ (before ++ s ∷ []) ss apart.1)

-- ---- one index

-- at this index is one of the receipts, and then it is the first; or none does
record PassesOne (J : List JournalEntry) (number index : ℕ) (e : JournalEntry) (rs : List Receipt) : Type 0 where
  left : List Receipt
  entered : AreEntered J number (index + 1) left
  readable : AllByRecursion IsReadable (receipt_events left)
  either : (rs ≡ left) ⊎ ((length rs ≡ length left + 1) × (e.seat ≡ number) × IsReadable e.event × (receipt_events rs ≡ e.event ∷ receipt_events left))

pass_here : (J : List JournalEntry) (number index : ℕ) (e : JournalEntry) (r : Receipt) (rs : List Receipt) → slice_get J index ≡ Some e → index ≡ r.place
    → AreEntered J number index (r ∷ rs) → AllByRecursion IsReadable (receipt_events (r ∷ rs)) → PassesOne J number index e (r ∷ rs)
pass_here J number index e r rs at same entered readable =
    let is : e ≡ record { seat = number; event = r.event; reply = r.reply } =
    let here : slice_get J index ≡ Some (record { seat = number; event = r.event; reply = r.reply }) = rw same entered.0.here in cc in
    record {
      left = rs;
      entered = rw same entered.1;
      readable = readable.1;
      either = inr (
        omega arith,
        ap (λ (x : JournalEntry). x.seat) is,
        subst IsReadable (sym (ap (λ (x : JournalEntry). x.event) is)) readable.0,
        ap (λ (event : Event). event ∷ receipt_events rs) (sym (ap (λ (x : JournalEntry). x.event) is)),
      );
    }

pass_before : (J : List JournalEntry) (number index : ℕ) (e : JournalEntry) (r : Receipt) (rs : List Receipt) → index < r.place
    → AreEntered J number index (r ∷ rs) → AllByRecursion IsReadable (receipt_events (r ∷ rs)) → PassesOne J number index e (r ∷ rs)
pass_before J number index e r rs before entered readable = record {
  left = r ∷ rs;
  entered = (record { rises = omega arith; here = entered.0.here }, entered.1);
  readable = readable;
  either = inl refl;
}

pass_one : (J : List JournalEntry) (number index : ℕ) (e : JournalEntry) (rs : List Receipt) → slice_get J index ≡ Some e
    → AreEntered J number index rs → AllByRecursion IsReadable (receipt_events rs) → PassesOne J number index e rs
pass_one J number index e [] at entered readable = record { left = []; entered = tt; readable = tt; either = inl refl }
pass_one J number index e (r ∷ rs) at entered readable =
    elim (eq-or-lt_of_le entered.0.rises) [
      | inl same ↦ pass_here J number index e r rs at same entered readable
      | inr before ↦ pass_before J number index e r rs before entered readable
    ]

-- ---- what a seat was informed of, and what the journal has of it

-- of these entries, those of each seat have the events of its receipts
abbrev AreReceipted : List JournalEntry → List Seated → Type 0
AreReceipted rest seats = AllByRecursion (λ s. events_by rest s ≡ receipt_events s.receipts) seats

other_receipts : (e : JournalEntry) (rest : List JournalEntry) (s : Seated) (left : List Receipt) → s.receipts ≡ left → (e.seat ≢ s.number)
    → events_by rest (record { number = s.number; receipts = left }) ≡ receipt_events left → events_by (e ∷ rest) s ≡ receipt_events s.receipts
other_receipts e rest s left same other stated =
    let others = filter (λ (x : JournalEntry). x.seat == s.number) rest in
    ap (λ (b : Bool). journal_events (cond b (e ∷ others) others)) (ne_eqb e.seat s.number other) ∙ stated ∙ ap receipt_events (sym same)

own_receipt : (e : JournalEntry) (rest : List JournalEntry) (s : Seated) (left : List Receipt) → receipt_events s.receipts ≡ e.event ∷ receipt_events left →
    (e.seat ≡ s.number)
    → events_by rest (record { number = s.number; receipts = left }) ≡ receipt_events left → events_by (e ∷ rest) s ≡ receipt_events s.receipts
own_receipt e rest s left same own stated =
    let others = filter (λ (x : JournalEntry). x.seat == s.number) rest in
    ap (λ (b : Bool). journal_events (cond b (e ∷ others) others)) (eq-eqb e.seat s.number own)
    ∙ ap (λ (events : List Event). e.event ∷ events) stated
    ∙ sym same

-- ---- all seats

-- their receipts, at indexes that are not before this one
abbrev EachFrom : List JournalEntry → ℕ → List Seated → Type 0
EachFrom J index [] = ⊤
EachFrom J index (s ∷ ss) = AreEntered J s.number index s.receipts × EachFrom J index ss

record Passes (J : List JournalEntry) (index : ℕ) (e : JournalEntry) (seats : List Seated) : Type 0 where
  left : List Seated
  entered : EachFrom J (index + 1) left
  readable : AllByRecursion HasReadable left
  differ : Differ left
  none : (number : ℕ) → NoneHas number seats → NoneHas number left
  either : (receipts_in seats ≡ receipts_in left) ⊎ ((receipts_in seats ≡ receipts_in left + 1) × (NoneHas e.seat seats → ⊥) × IsReadable e.event)
  foreign : (rest : List JournalEntry) → NoneHas e.seat seats → AreReceipted rest left → AreReceipted (e ∷ rest) seats
  own : (rest : List JournalEntry) → receipts_in seats ≡ receipts_in left + 1 → AreReceipted rest left → AreReceipted (e ∷ rest) seats

pass_foreign : (J : List JournalEntry) (index : ℕ) (e : JournalEntry) (s : Seated) (ss : List Seated) (one : PassesOne J s.number index e s.receipts)
    (more : Passes J index e ss) (rest : List JournalEntry) → NoneHas e.seat (s ∷ ss)
    → AreReceipted rest (record { number = s.number; receipts = one.left } ∷ more.left) → AreReceipted (e ∷ rest) (s ∷ ss)
pass_foreign J index e s ss one more rest none stated =
    elim one.either [
      | inl same ↦ (other_receipts e rest s one.left same (λ is. none.0 (sym is)) stated.0, more.foreign rest none.1 stated.1)
      | inr here ↦ absurd (none.0 (sym here.1))
    ]

pass_own : (J : List JournalEntry) (index : ℕ) (e : JournalEntry) (s : Seated) (ss : List Seated) → NoneHas s.number ss
    → (one : PassesOne J s.number index e s.receipts) (more : Passes J index e ss) (rest : List JournalEntry)
    → receipts_in (s ∷ ss) ≡ length one.left + receipts_in more.left + 1
    → AreReceipted rest (record { number = s.number; receipts = one.left } ∷ more.left) → AreReceipted (e ∷ rest) (s ∷ ss)
pass_own J index e s ss apart one more rest counted stated =
    elim one.either [
      | inl same ↦
          let long : length s.receipts ≡ length one.left = ap length same in
          elim more.either [
            | inl others ↦ absurd (omega arith)
            | inr other ↦ (
              other_receipts e rest s one.left same (λ is. other.1 (subst (λ (n : ℕ). NoneHas n ss) (sym is) apart)) stated.0,
              more.own rest other.0 stated.1,
            )
          ]
      | inr here ↦ (
        own_receipt e rest s one.left here.3 here.1 stated.0,
        more.foreign rest (subst (λ (n : ℕ). NoneHas n ss) (sym here.1) apart) stated.1,
      )
    ]

pass_either : (J : List JournalEntry) (index : ℕ) (e : JournalEntry) (s : Seated) (ss : List Seated) → NoneHas s.number ss
    → (one : PassesOne J s.number index e s.receipts) (more : Passes J index e ss)
    → (receipts_in (s ∷ ss) ≡ length one.left + receipts_in more.left)
    ⊎ ((receipts_in (s ∷ ss) ≡ length one.left + receipts_in more.left + 1) × (NoneHas e.seat (s ∷ ss) → ⊥) × IsReadable e.event)
pass_either J index e s ss apart one more =
    elim one.either [
      | inl same ↦
          let long : length s.receipts ≡ length one.left = ap length same in
          elim more.either [
            | inl others ↦ inl (omega arith)
            | inr other ↦ inr (omega arith, (λ n. other.1 n.1), other.2)
          ]
      | inr here ↦ elim more.either [
        | inl others ↦ inr (omega arith, (λ n. n.0 (sym here.1)), here.2)
        | inr other ↦ absurd (other.1 (subst (λ (n : ℕ). NoneHas n ss) (sym here.1) apart))
      ]
    ]

pass : (J : List JournalEntry) (index : ℕ) (e : JournalEntry) (seats : List Seated) → slice_get J index ≡ Some e → EachFrom J index seats
    → AllByRecursion HasReadable seats → Differ seats → Passes J index e seats
pass J index e [] at entered readable apart =
    record {
      left = [];
      entered = tt;
      readable = tt;
      differ = tt;
      none = λ number n. tt;
      either = inl refl;
      foreign = λ rest none stated. tt;
      own = λ rest counted stated. tt;
    }
pass J index e (s ∷ ss) at entered readable apart =
    let one = pass_one J s.number index e s.receipts at entered.0 readable.0 in
    let more = pass J index e ss at entered.1 readable.1 apart.1 in
    record {
      left = record { number = s.number; receipts = one.left } ∷ more.left;
      entered = (one.entered, more.entered);
      readable = (one.readable, more.readable);
      differ = (more.none s.number apart.0, more.differ);
      none = λ number n. (n.0, more.none number n.1);
      either = pass_either J index e s ss apart.0 one more;
      foreign = pass_foreign J index e s ss one more;
      own = pass_own J index e s ss apart.0 one more;
    }

-- ---- all indexes

-- after the last index there is no receipt
none_following : (J : List JournalEntry) (number index : ℕ) (rs : List Receipt) → ((i : ℕ) → slice_get J (index + i) ≡ None)
    → AreEntered J number index rs → length rs ≡ 0
none_following J number index [] end entered = refl
none_following J number index (r ∷ rs) end entered =
    let rises = entered.0.rises in
    let at : index + (r.place - index) ≡ r.place = omega arith in
    let none : slice_get J r.place ≡ None = subst (λ (i : ℕ). slice_get J i ≡ None) at (end (r.place - index)) in
    let here = entered.0.here in absurd cc

none_left : (J : List JournalEntry) (index : ℕ) (seats : List Seated) → ((i : ℕ) → slice_get J (index + i) ≡ None) → EachFrom J index seats → receipts_in seats
    ≡ 0
none_left J index [] end entered = refl
none_left J index (s ∷ ss) end entered =
    let one = none_following J s.number index s.receipts end entered.0 in
    let more = none_left J index ss end entered.1 in omega arith

-- there are at most as many receipts as entries are left, and if there are as many, each of these is one of them
record Covered (rest : List JournalEntry) (seats : List Seated) : Type 0 where
  few : receipts_in seats ≤ length rest
  readable : receipts_in seats ≡ length rest → AllByRecursion IsReadable (journal_events rest)

covered_one : (J : List JournalEntry) (index : ℕ) (e : JournalEntry) (rest : List JournalEntry) (seats : List Seated) (p : Passes J index e seats)
    → Covered rest p.left → Covered (e ∷ rest) seats
covered_one J index e rest seats p more =
    let few = more.few in
    elim p.either [
      | inl same ↦ record { few = omega arith; readable = λ all. absurd (omega arith) }
      | inr here ↦ let counted = here.0 in record { few = omega arith; readable = λ all. (here.2, more.readable (omega arith)) }
    ]

covered : (J : List JournalEntry) (index : ℕ) (rest : List JournalEntry) (seats : List Seated) → ((i : ℕ) → slice_get J (index + i) ≡ slice_get rest i)
    → EachFrom J index seats → AllByRecursion HasReadable seats → Differ seats → Covered rest seats
covered J index [] seats at entered readable apart =
    let none = none_left J index seats at entered in
    record { few = omega arith; readable = λ all. tt }
covered J index (e ∷ rest) seats at entered readable apart =
    let p = pass J index e seats (subst (λ (i : ℕ). slice_get J i ≡ Some e) (add-zero index) (at 0)) entered readable apart in
    covered_one J index e rest seats p
    (covered J (index + 1) rest p.left
    (λ i. let next : index + 1 + i ≡ index + suc i = omega arith in ap (λ (k : ℕ). slice_get J k) next ∙ at (suc i))
    p.entered p.readable p.differ)

each_from : (J : List JournalEntry) (seats : List Seated) → AllEntered J seats → EachFrom J 0 seats
each_from J [] entered = tt
each_from J (s ∷ ss) entered = (entered.0, each_from J ss entered.1)

no_receipts : (rs : List Receipt) → length rs ≡ 0 → receipt_events rs ≡ []
no_receipts [] none = refl
no_receipts (r ∷ rs) none = absurd (omega arith)

none_receipted : (seats : List Seated) → receipts_in seats ≡ 0 → AreReceipted [] seats
none_receipted [] none = tt
none_receipted (s ∷ ss) none = (sym (no_receipts s.receipts (omega arith)), none_receipted ss (omega arith))

-- if there are as many, each seat's entries are its receipts
stated : (J : List JournalEntry) (index : ℕ) (rest : List JournalEntry) (seats : List Seated) → ((i : ℕ) → slice_get J (index + i) ≡ slice_get rest i)
    → EachFrom J index seats → AllByRecursion HasReadable seats → Differ seats → receipts_in seats ≡ length rest → AreReceipted rest seats
stated J index [] seats at entered readable apart all = none_receipted seats all
stated J index (e ∷ rest) seats at entered readable apart all =
    let p = pass J index e seats (subst (λ (i : ℕ). slice_get J i ≡ Some e) (add-zero index) (at 0)) entered readable apart in
    let following : (i : ℕ) → slice_get J (index + 1 + i) ≡ slice_get rest i =
    λ i. let next : index + 1 + i ≡ index + suc i = omega arith in ap (λ (k : ℕ). slice_get J k) next ∙ at (suc i) in
    let few = (covered J (index + 1) rest p.left following p.entered p.readable p.differ).few in
    elim p.either [
      | inl same ↦ absurd (omega arith)
      | inr here ↦
          let counted = here.0 in
          p.own rest counted (stated J (index + 1) rest p.left following p.entered p.readable p.differ (omega arith))
    ]

from_first : (J : List JournalEntry) (i : ℕ) → slice_get J (0 + i) ≡ slice_get J i
from_first J i = let same : 0 + i ≡ i = omega arith in ap (λ (k : ℕ). slice_get J k) same

-- what the seats were informed of is what the journal has of them
handed_by : (J : List JournalEntry) (number : ℕ) (files : List (List Said)) (seats : List Seated) (dropped : List ℕ) → AreReceipted J seats
    → AreHanded (λ s. receipt_events s.receipts) number files seats dropped → AreHanded (events_by J) number files seats dropped
handed_by J number [] [] [] known handed = tt
handed_by J number (said ∷ files) (seat ∷ seats) (dropped ∷ others) known handed = (
  handed.0,
  subst (λ (events : List Event). Handed said events dropped) (sym known.0) handed.1,
  handed_by J (number + 1) files seats others known.1 handed.2,
)
handed_by J number files seats others known handed = absurd handed

handed_in : (J : List JournalEntry) (files : List (List Said)) (seats : List Seated) (dropped : List ℕ) → IsReconciled J seats
    → AllByRecursion HasReadable seats → AreHanded (λ s. receipt_events s.receipts) 0 files seats dropped → AreHanded (events_by J) 0 files seats dropped
handed_in J files seats dropped reconciled readable handed =
    handed_by J 0 files seats dropped
    (stated J 0 J seats (from_first J) (each_from J seats reconciled.entered) readable (differ [] seats reconciled.apart) (sym reconciled.counted))
    handed

-- where the seats are those that were asked
pub handed_by_same : (J : List JournalEntry) (files : List (List Said)) (seats asked : List Seated) (dropped : List ℕ) → IsReconciled J seats
    → seats ≡ asked → AllByRecursion HasReadable asked → AreHanded (λ s. receipt_events s.receipts) 0 files asked dropped
    → AreHanded (events_by J) 0 files seats dropped
handed_by_same J files seats asked dropped reconciled same readable handed =
    handed_in J files seats dropped reconciled (subst (AllByRecursion HasReadable) (sym same) readable)
    (subst (λ (ss : List Seated). AreHanded (λ s. receipt_events s.receipts) 0 files ss dropped) (sym same) handed)

-- what seats handed in may come from PDUs that were read: so may all of a journal that is theirs, and its replies can be written
pub replies_fit : OutcomesFit → (J : List JournalEntry) (W : World) (seats : List Seated) → IsHistory J W → IsReconciled J seats
    → AllByRecursion HasReadable seats → AllByRecursion FitsReply (replies_of J)
replies_fit law J W seats history reconciled readable =
    let all = covered J 0 J seats (from_first J) (each_from J seats reconciled.entered) readable
    (differ [] seats reconciled.apart) in
    subst (AllByRecursion FitsReply) history.replies (law W.config (journal_events J) (all.readable (sym reconciled.counted)))
