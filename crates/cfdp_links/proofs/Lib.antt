pub mod Hearing
pub mod Numbering
pub mod Preparing
pub mod Reconciling
pub mod SameConfig
