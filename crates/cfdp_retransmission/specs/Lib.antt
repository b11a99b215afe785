pub mod Timers
pub mod Finishing
pub mod Naks
pub mod Coming
pub mod Rounds
