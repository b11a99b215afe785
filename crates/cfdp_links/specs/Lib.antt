pub mod JournalTexts
pub mod Linked
pub mod Links
pub mod code
