pub mod ConfigurationKept
pub mod Histories
pub mod Beginning
pub mod Accepting
pub mod Faults
pub mod Serving
