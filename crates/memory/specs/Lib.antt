pub mod Layout
pub mod Image
pub mod Rules
pub mod Promises
mod Examples
