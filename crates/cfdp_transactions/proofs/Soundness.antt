-- Each event keeps the world sound, and the leased paths of all other transactions.
pub mod RowAnswers
pub mod OwnStatuses
pub mod LeftAlone
pub mod OwnChange
pub mod Turning
pub mod Ending
pub mod Receiving
pub mod Storing
pub mod Stepping
pub mod Joining
pub mod EachEvent
pub mod Granted
pub mod Parsing
pub mod Admitting
pub mod NextWorld
pub mod Needs
