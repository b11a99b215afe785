pub mod Found
pub mod Numbers
pub mod Pieces
