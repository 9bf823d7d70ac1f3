pub mod Laws
pub mod Refusals
pub mod Facts
pub mod ReadLaws
pub mod RoundTrip
pub mod Lines
pub mod Words
pub mod Examples
