pub mod Laws
pub mod Cutting
pub mod Examples
pub mod Splitting
