-- Those who hand in events, what is reported to them, and whether that is the journal.
--     Seated                    a seat: its number, and its receipts
--     receipts_in               how many receipts all seats have
--     is_number_taken, SeatsDiffer  a seat among these has the number;  the seats' numbers differ, also from those of
--                               the seats before
--     IsEntered J n low r       a seat's receipt: an entry of the journal, at an index that is not before `low`
--     AreEntered                a seat's receipts, in order: entries at rising indexes
--     IsReconciled J seats      the receipts are the journal: as many, of seats that differ, and each at its index
--     IsFirstTwice, IsFirstUnentered, IsFirstDiffering      a number, a seat's receipt, a receipt that is the first to
--                                                           break this
--     IsFirstFault              the first that is broken, of the counts, the numbers and the receipts
use Rattle.std.specs.Prelude.{◌≡◌, ◌≢◌, ⊤, ℕ, ◌+◌, ◌≤◌, Bool, ◌==◌, IsTrue, IsFalse, List, [], ◌∷◌, ◌++◌, length, Some, slice_get, ◌⊎◌}
use Rattle.std.specs.List.{list_any}
pub use Rattle.cfdp_engine.specs.declared.receipt.Receipt.{Receipt}
pub use Rattle.cfdp_engine.specs.declared.fault.Fault.{Fault}
pub use Rattle.cfdp_engine.specs.declared.fault.Fault.TheVariants.{CountDiffers, SeatTwice, ReceiptDiffers}
use Rattle.cfdp_engine.specs.Journal.{JournalEntry}

pub record Seated : Type 0 where
  pub number : ℕ
  pub receipts : List Receipt

abbrev pub receipts_in : List Seated → ℕ
receipts_in [] = 0
receipts_in (s ∷ ss) = length s.receipts + receipts_in ss

-- numbers ------------------------------------------------------------------------

abbrev pub is_number_taken : List Seated → ℕ → Bool
is_number_taken seats number = list_any (λ s. s.number == number) seats

-- each seat has a number that none before it has
abbrev pub SeatsDiffer : (before : List Seated) → List Seated → Type 0
SeatsDiffer before [] = ⊤
SeatsDiffer before (s ∷ ss) = IsFalse (is_number_taken before s.number) × SeatsDiffer (before ++ s ∷ []) ss

-- the first seat whose number one before it has
abbrev pub IsFirstTwice : (before : List Seated) → List Seated → ℕ → Type 0
IsFirstTwice before [] number = ⊥
IsFirstTwice before (s ∷ ss) number =
    (IsTrue (is_number_taken before s.number) × (number ≡ s.number))
    ⊎ (IsFalse (is_number_taken before s.number) × IsFirstTwice (before ++ s ∷ []) ss number)

-- receipts -----------------------------------------------------------------------

pub record IsEntered (J : List JournalEntry) (number low : ℕ) (r : Receipt) : Type 0 where
  pub rises : low ≤ r.place
  pub here : slice_get J r.place ≡ Some (record { seat = number; event = r.event; reply = r.reply })

abbrev pub AreEntered : List JournalEntry → (number low : ℕ) → List Receipt → Type 0
AreEntered J number low [] = ⊤
AreEntered J number low (r ∷ rs) = IsEntered J number low r × AreEntered J number (r.place + 1) rs

abbrev pub AllEntered : List JournalEntry → List Seated → Type 0
AllEntered J [] = ⊤
AllEntered J (s ∷ ss) = AreEntered J s.number 0 s.receipts × AllEntered J ss

-- the index of the first receipt that is not
abbrev pub IsFirstUnentered : List JournalEntry → (number low : ℕ) → List Receipt → (index : ℕ) → Type 0
IsFirstUnentered J number low [] index = ⊥
IsFirstUnentered J number low (r ∷ rs) index =
    (¬ IsEntered J number low r × (index ≡ r.place)) ⊎ (IsEntered J number low r
    × IsFirstUnentered J number (r.place + 1) rs index)

-- of the first seat that has one
abbrev pub IsFirstDiffering : List JournalEntry → List Seated → (number index : ℕ) → Type 0
IsFirstDiffering J [] number index = ⊥
IsFirstDiffering J (s ∷ ss) number index =
    ((number ≡ s.number) × IsFirstUnentered J s.number 0 s.receipts index)
    ⊎ (AreEntered J s.number 0 s.receipts × IsFirstDiffering J ss number index)

-- all together -------------------------------------------------------------------

pub record IsReconciled (J : List JournalEntry) (seats : List Seated) : Type 0 where
  pub counted : length J ≡ receipts_in seats
  pub apart : SeatsDiffer [] seats
  pub entered : AllEntered J seats

abbrev pub IsFirstFault : List JournalEntry → List Seated → Fault → Type 0
IsFirstFault J seats CountDiffers = length J ≢ receipts_in seats
IsFirstFault J seats (SeatTwice number) = (length J ≡ receipts_in seats) × IsFirstTwice [] seats number
IsFirstFault J seats (ReceiptDiffers number index) = (length J ≡ receipts_in seats) × SeatsDiffer [] seats
    × IsFirstDiffering J seats number index
