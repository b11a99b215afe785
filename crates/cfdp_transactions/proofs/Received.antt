-- Octets that came, as ranges and a staged list, and their gaps.
pub mod OctetsAndGaps
pub mod PieceRanges
pub mod Writing
pub mod RangeSteps
pub mod Overwriting
pub mod FillingGaps
pub mod RangesAdded
pub mod GapsOfEntry
