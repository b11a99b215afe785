-- What only the proofs of the code need: no clause of a public function cites it.
pub mod Sessions
pub mod Closed
