pub mod Awaiting
pub mod NakRounds
pub mod Closing
pub mod Concluding
pub mod InAll
pub mod HeldRounds
