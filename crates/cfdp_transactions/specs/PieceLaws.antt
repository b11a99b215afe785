-- What is true of received octets that are kept as ranges and a staged list.
--     AreWithin end ranges      no range goes past the end
--     ArePieces ranges xs       longest runs, in order, within the octets
--     PiecesAreRanges, GapsAreBetween, WholeHasNone      how many pieces, which gaps, and whether all is there
--     RangeIsAdded              with_range has the offsets of both, as longest runs
--     RangesKeep                what is kept after octets came
--     StagedAreKept             the staged list, which has zeros between the ranges
use Rattle.std.specs.Prelude.{◌≡◌, ℕ, ◌+◌, max, ◌≤◌, ◌<◌, ◌↔◌, ◌&&◌, ◌||◌, nat_le, nat_lt, IsTrue, IsFalse, List, [], length, slice_index}
use Rattle.std.specs.List.{AllByRecursion}
use Rattle.cfdp_transactions.specs.Received.{kept_with, staged_of, is_whole, pieces, gaps_below}
use Rattle.cfdp_transactions.specs.ReceivedLaws.{AreRuns}
use Rattle.cfdp_transactions.specs.Pieces.{Ranges, is_in, received_in, with_range, between}

abbrev pub AreWithin : ℕ → Ranges → Type 0
AreWithin end = AllByRecursion (λ r. r.1 ≤ end)

pub record ArePieces (ranges : Ranges) (xs : List ℕ) : Type 0 where
  pub runs : AreRuns 0 ranges
  pub within : AreWithin (length xs) ranges

abbrev pub PiecesAreRanges : Type 0
PiecesAreRanges = (ranges : Ranges) (xs : List ℕ) → ArePieces ranges xs → pieces (received_in ranges xs) ≡ length ranges

abbrev pub GapsAreBetween : Type 0
GapsAreBetween = (limit : ℕ) (ranges : Ranges) (xs : List ℕ) → ArePieces ranges xs → length xs ≤ limit →
    gaps_below limit (received_in ranges xs) ≡ between 0 ranges limit

abbrev pub WholeHasNone : Type 0
WholeHasNone =
    (size : ℕ) (ranges : Ranges) (xs : List ℕ) → ArePieces ranges xs → IsTrue (is_whole size (received_in ranges xs))
    ↔ ((length xs ≡ size) × (between 0 ranges size ≡ []))

abbrev pub RangeIsAdded : Type 0
RangeIsAdded =
    (a b : ℕ) (ranges : Ranges) → a < b → AreRuns 0 ranges →
    AreRuns 0 (with_range a b ranges) × ((i : ℕ) → is_in i (with_range a b ranges)
    ≡ ((nat_le a i && nat_lt i b) || is_in i ranges))

-- ys is xs with the octets written where nothing was received yet
pub record AreWritten (ranges : Ranges) (xs : List ℕ) (at : ℕ) (octets ys : List ℕ) : Type 0 where
  pub long : length ys ≡ max (length xs) (at + length octets)
  pub kept : (i : ℕ) → i < length xs → IsTrue (is_in i ranges) → slice_index ys i ≡ slice_index xs i
  pub written : (j : ℕ) → j < length octets → IsFalse (is_in (at + j) ranges) → slice_index ys (at + j)
      ≡ slice_index octets j

abbrev pub RangesKeep : Type 0
RangesKeep =
    (ranges : Ranges) (xs : List ℕ) (at : ℕ) (octets ys : List ℕ) → ArePieces ranges xs → 0 < length octets →
    AreWritten ranges xs at octets ys →
    received_in (with_range at (at + length octets) ranges) ys ≡ kept_with (received_in ranges xs) at octets

abbrev pub StagedAreKept : Type 0
StagedAreKept =
    (ranges : Ranges) (xs : List ℕ) → ((i : ℕ) → i < length xs → IsFalse (is_in i ranges) → slice_index xs i ≡ 0) →
    staged_of (received_in ranges xs) ≡ xs
