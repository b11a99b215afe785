-- What only the proofs of the code need: no clause of a public function cites it.
pub mod Sketching
pub mod Sparse
pub mod Views
pub mod Branched
pub mod Forms
