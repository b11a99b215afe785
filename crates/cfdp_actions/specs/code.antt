-- What only the proofs of the code need: no clause of a public function cites it.
pub mod Prefixes
pub mod Listed
pub mod Codes
pub mod Refusals
