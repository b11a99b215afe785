pub mod ClosedNames
pub mod Indexes
pub mod Names
pub mod Setters
pub mod SourceIndexes
