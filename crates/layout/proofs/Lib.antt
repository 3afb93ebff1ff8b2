pub mod NumberLaws
pub mod RecordLaws
