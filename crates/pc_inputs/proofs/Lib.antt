mod ListLemmas
mod LogFaultLemmas
mod WordLooks
mod WordSteps
mod WordsLemmas
pub mod ReadingLemmas
pub mod PlanLemmas
