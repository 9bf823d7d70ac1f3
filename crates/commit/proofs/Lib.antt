pub mod Parts
pub mod Numbers
pub mod Turns
pub mod Steps
pub mod Plain
