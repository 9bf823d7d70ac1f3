pub mod Commands
pub mod Refusals
pub mod Meaning
pub mod Sound
