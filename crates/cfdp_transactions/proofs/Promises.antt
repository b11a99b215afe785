-- What is promised from each world to the next, and the laws beside the headline.
pub mod Carried
pub mod Admissions
pub mod Promise
pub mod AddedAndTaken
pub mod Outgoing
pub mod Readable
pub mod OnlyTakeHandsOut
pub mod OnlyStepsChange
pub mod ItemsListed
pub mod ItemOrder
pub mod Installed
pub mod Keys
pub mod InstallReplies
pub mod Fitting
