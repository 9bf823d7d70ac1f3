pub mod Terms
pub mod Ids
pub mod Outcome
