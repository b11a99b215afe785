-- What is collected, moment by moment.
--     Shown, shown_of        what is given of a mark: its moment, its kind, which way it goes, and what is said of it
--     ids_of, marks_at       the transactions of lanes;  the marks of the lane with an index
--     HasLane old new id     the lanes are the same, or one without marks comes after them, of a transaction that has
--                            none
--     WrittenNote, IsNoted   what is said of a note;  there is one more, with the next number, or there are already as
--                            many as are written out
--     Gains old new index id shown      the lane with an index, which is that of a transaction, has one more mark, and
--                                       the marks of the others stay
use Rattle.std.specs.Prelude.{◌≡◌, ◌≢◌, ◌⊎◌, ℕ, ◌+◌, ◌<◌, ◌≤◌, List, [], ◌∷◌, ◌++◌, Option, Some, length, map, slice_get, slice_index_or}
use Rattle.std.specs.List.{AllByRecursion}
use Rattle.cfdp_status.specs.declared.transaction.TransactionId.{TransactionId}
use Rattle.cfdp_draw.specs.declared.chart.Lane.{Lane}
use Rattle.cfdp_draw.specs.declared.chart.Mark.{Mark}
use Rattle.cfdp_draw.specs.declared.chart.Note.{Note}
use Rattle.cfdp_draw.specs.declared.chart.TheConstants.{MOST_NOTES}
use Rattle.cfdp_draw.specs.declared.mark_kinds.MarkKind.{MarkKind}
use Rattle.cfdp_draw.specs.declared.mark_kinds.Direction.{Direction}

pub record Shown : Type 0 where
  pub moment : ℕ
  pub kind : MarkKind
  pub direction : Direction
  pub words : List ℕ

abbrev pub shown_of : Mark → Shown
shown_of mark = record {
  moment = mark.at.moments;
  kind = mark.kind;
  direction = mark.direction;
  words =
      mark.words.items;
}

abbrev pub ids_of : List Lane → List (Option TransactionId)
ids_of lanes = map (λ lane. lane.id) lanes

abbrev pub lane_marks : Lane → List Shown
lane_marks lane = map shown_of lane.marks.items

abbrev pub marks_at : List Lane → ℕ → List Shown
marks_at lanes index = slice_index_or (map lane_marks lanes) index []

pub record IsAdded (old new : List Lane) (id : Option TransactionId) : Type 0 where
  pub lane : Lane
  pub is : new ≡ old ++ lane ∷ []
  pub of : lane.id ≡ id
  pub bare : lane.marks.items ≡ []
  pub fresh : AllByRecursion (λ (other : Lane). other.id ≢ id) old

abbrev pub HasLane : List Lane → List Lane → Option TransactionId → Type 0
HasLane old new id = (new ≡ old) ⊎ IsAdded old new id

pub record Gains (old new : List Lane) (index : ℕ) (id : Option TransactionId) (shown : Shown) : Type 0 where
  pub of : slice_get (ids_of new) index ≡ Some id
  pub one : marks_at new index ≡ marks_at old index ++ shown ∷ []
  pub others : (k : ℕ) → k ≢ index → marks_at new k ≡ marks_at old k

pub record WrittenNote : Type 0 where
  pub number : ℕ
  pub id : Option TransactionId
  pub time : ℕ
  pub words : List ℕ

abbrev pub written_note : Note → WrittenNote
written_note note = record { number = note.number; id = note.id; time = note.time; words = note.words.items }

pub record IsNoted (old new : List Note) (id : Option TransactionId) (time : ℕ) (words : List ℕ) : Type 0 where
  pub full : MOST_NOTES ≤ length old → new ≡ old
  pub one : length old < MOST_NOTES →
      map written_note new ≡ map written_note old
      ++ record { number = length old + 1; id = id; time = time; words = words }
      ∷ []
