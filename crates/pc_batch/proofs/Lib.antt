pub mod BatchLaws
pub mod FieldLaws
pub mod HeadersLaws
pub mod HeadersLemmas
pub mod RecordLaws
pub mod RecordsLemmas
