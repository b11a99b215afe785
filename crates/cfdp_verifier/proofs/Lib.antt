pub mod Prepended
pub mod Covered
pub mod Running
pub mod Judged
pub mod Tested
