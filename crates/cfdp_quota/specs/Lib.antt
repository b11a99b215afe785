pub mod Budget
pub mod Steps
