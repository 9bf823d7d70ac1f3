pub mod NumberLaws
pub mod StringLaws
pub mod FieldLaws
pub mod ScanLaws
pub mod PayloadLaws
pub mod LineLaws
pub mod RowLaws
pub mod LineTheorems
