-- What only the proofs of the code need: no clause of a public function cites it.
pub mod Branches
pub mod Falling
pub mod Twigs
