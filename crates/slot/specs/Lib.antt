pub mod Image
pub mod Region
pub mod Promises
pub mod Examples
