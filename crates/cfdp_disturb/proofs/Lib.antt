pub mod TakenLines
pub mod Coming
