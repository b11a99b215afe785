-- What only the proofs of the code need: no clause of a public function cites it.
pub mod LowerLaws
pub mod ConfigEquality
pub mod Pieces
pub mod FileData
pub mod TableEntries
pub mod TableChanges
pub mod Books
pub mod Adding
pub mod Items
pub mod TakenOutcome
pub mod FinishedInBuffer
pub mod CoreFields
