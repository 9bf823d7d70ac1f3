pub mod Slots
pub mod Operations
pub mod Lent
pub mod Resting
pub mod Tests
pub mod Limits
