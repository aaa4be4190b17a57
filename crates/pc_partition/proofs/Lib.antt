pub mod RunsLemmas
pub mod StateLemmas
pub mod WindowLemmas
pub mod CountsLemmas
pub mod CountedLemmas
pub mod BitsUpto
pub mod LengthsLemmas
