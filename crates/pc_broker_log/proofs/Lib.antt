pub mod NextRecords
pub mod PolledLemmas
pub mod TableLemmas
pub mod RecordAt
