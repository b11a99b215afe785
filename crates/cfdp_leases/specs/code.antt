-- What only the proofs of the code need: no clause of a public function cites it.
pub mod Footprint
pub mod Leases
pub mod Holders
pub mod Live
