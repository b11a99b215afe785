-- What only the proofs of the code need: no clause of a public function cites it.
pub mod Turning
pub mod StateMachine
pub mod Heard
pub mod Sent
