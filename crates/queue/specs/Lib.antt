pub mod Rows
pub mod Meaning
pub mod Region
pub mod Post
pub mod Parts
pub mod Owed
pub mod Examples
