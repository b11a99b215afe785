-- What only the proofs of the code need: no clause of a public function cites it.
pub mod Reading
pub mod Counting
pub mod Fields
pub mod Equality
pub mod Sound
pub mod Receiving
pub mod Messages
