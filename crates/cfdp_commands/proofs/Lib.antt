pub mod Answering
pub mod Copying
pub mod Handing
pub mod PathLengths
pub mod Statuses
pub mod Steps
pub mod Verdicts
