-- Where there is a fault, the receipts are not the journal.
use Rattle.std.proofs.Common.{ℕ, ◌+◌, List, [], ◌∷◌, ◌++◌, inl, inr}
use Rattle.std.specs.Prelude.{Bool, IsTrue, IsFalse}
use Rattle.cfdp_engine.specs.Journal.{JournalEntry}
use Rattle.cfdp_engine.specs.Seats.{Receipt, Fault, CountDiffers, SeatTwice, ReceiptDiffers, Seated, SeatsDiffer, IsFirstTwice, AreEntered, AllEntered, IsFirstUnentered, IsFirstDiffering, IsReconciled, IsFirstFault}

pub both : (b : Bool) → IsTrue b → IsFalse b → ⊥
both b holds fails = cc

twice_apart : (before seats : List Seated) (number : ℕ) → IsFirstTwice before seats number → SeatsDiffer before seats → ⊥
twice_apart before [] number twice apart = twice
twice_apart before (s ∷ ss) number twice apart = elim twice [
  | inl here ↦ both _ here.0 apart.0
  | inr later ↦
      twice_apart (before ++ s ∷ []) ss number later.1 apart.1
]

unentered : (J : List JournalEntry) (number low : ℕ) (rs : List Receipt) (index : ℕ) → IsFirstUnentered J number low rs index → AreEntered J number low rs → ⊥
unentered J number low [] index first entered = first
unentered J number low (r ∷ rs) index first entered = elim first [
  | inl here ↦ here.0 entered.0
  | inr later ↦
      unentered J number (r.place + 1) rs index later.1 entered.1
]

differing : (J : List JournalEntry) (seats : List Seated) (number index : ℕ) → IsFirstDiffering J seats number index → AllEntered J seats → ⊥
differing J [] number index first entered = first
differing J (s ∷ ss) number index first entered = elim first [
  | inl here ↦ unentered J s.number 0 s.receipts index here.1 entered.0
  | inr later ↦
      differing J ss number index later.1 entered.1
]

pub fault_differs : (J : List JournalEntry) (seats : List Seated) (fault : Fault) → IsFirstFault J seats fault → IsReconciled J seats → ⊥
fault_differs J seats CountDiffers first all = first all.counted
fault_differs J seats (SeatTwice number) first all = twice_apart [] seats number first.1 all.apart
fault_differs J seats (ReceiptDiffers number index) first all = differing J seats number index first.2 all.entered
