pub mod Received
pub mod Post
pub mod Verdict
pub mod Strings
