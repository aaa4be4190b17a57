pub mod BatchFacts
pub mod CursorLemmas
pub mod LogLaws
pub mod LogLemmas
pub mod Standing
pub mod SeekLaws
