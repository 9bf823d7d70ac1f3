pub mod Turn
pub mod Represents
pub mod Promises
