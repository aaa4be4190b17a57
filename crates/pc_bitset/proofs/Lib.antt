pub mod PackingLemmas
pub mod UnpackingLemmas
