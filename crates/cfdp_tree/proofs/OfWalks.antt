-- Walks over what is at a path and below it.
pub mod WalkLaws
pub mod NodesBelowLaws
pub mod DeepestLaws
pub mod ListingLaws
pub mod InOrderLaws
pub mod LeftOutLaws
pub mod BesideLaws
