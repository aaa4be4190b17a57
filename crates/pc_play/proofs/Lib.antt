mod HandLemmas
mod CallLemmas
pub mod NoLine
mod PlayLemmas
