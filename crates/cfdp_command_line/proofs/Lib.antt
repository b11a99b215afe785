pub mod Asking
pub mod Program
pub mod Reading
pub mod Pairing
