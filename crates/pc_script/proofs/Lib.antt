pub mod ArgumentLemmas
pub mod PlayScriptLemmas
pub mod StepsLemmas
