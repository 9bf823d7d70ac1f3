pub mod Tally
pub mod Promises
