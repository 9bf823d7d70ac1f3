pub mod Fields
pub mod Payload
pub mod Line
pub mod FieldPost
pub mod PayloadPost
pub mod LinePost
