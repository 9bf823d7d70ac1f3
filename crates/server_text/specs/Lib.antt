pub mod Strings
pub mod Fields
pub mod Lines
pub mod Promises
mod Examples
