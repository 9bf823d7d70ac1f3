pub mod Encoding
pub mod Region
pub mod States
pub mod Turn
pub mod Promises
pub mod Examples
