pub mod Living
pub mod code
