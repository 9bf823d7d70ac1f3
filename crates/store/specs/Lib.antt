pub mod Row
pub mod Region
pub mod Operation
pub mod Index
pub mod Walk
