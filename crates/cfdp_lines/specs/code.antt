-- What only the proofs of the code need: no clause of a public function cites it.
pub mod Digits
pub mod Hexadecimal
pub mod SessionReading
pub mod Session
