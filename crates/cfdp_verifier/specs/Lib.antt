pub mod Verdict
pub mod Answers
pub mod code
