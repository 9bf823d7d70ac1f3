pub mod Steps
pub mod Slots
pub mod Turns
pub mod Images
pub mod Runs
pub mod Actions
pub mod Events
pub mod Ends
