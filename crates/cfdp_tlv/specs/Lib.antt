pub mod Reading
pub mod Types
pub mod Field
pub mod Values
pub mod Grammar
pub mod Equality
pub mod Texts
pub mod code
