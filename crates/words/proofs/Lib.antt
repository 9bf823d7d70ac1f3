pub mod Rule
pub mod Examples
pub mod Laws
