pub mod Rows
pub mod Owed
pub mod Regions
pub mod Operations
pub mod Appending
pub mod First
pub mod Messages
pub mod Steps
