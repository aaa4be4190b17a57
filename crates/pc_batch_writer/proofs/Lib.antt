pub mod BatchLemmas
pub mod GeneratedLogs
pub mod GeneratorLemmas
pub mod PutLemmas
pub mod WriteLemmas
