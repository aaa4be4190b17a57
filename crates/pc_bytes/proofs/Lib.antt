pub mod CrcLemmas
pub mod CrcTables
pub mod PutLemmas
pub mod VarintLaws
pub mod VarintLemmas
