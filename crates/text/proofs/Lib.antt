pub mod ScanLaws
pub mod NumberLaws
pub mod PayloadLaws
pub mod LineLaws
pub mod LineRule
pub mod LengthLaws
pub mod Escapes
pub mod Examples
