pub mod Laws
pub mod Order
pub mod SoundLaws
pub mod Examples
