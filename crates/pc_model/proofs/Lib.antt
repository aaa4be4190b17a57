pub mod BitsLemmas
pub mod MapRows
mod RangesLemmas
pub mod SetupLaws
pub mod Legal
pub mod RowsLegal
pub mod OnLiterals
pub mod SamePart
pub mod ListLemmas
pub mod EpochLaws
pub mod StoredLaws
pub mod KnownLaws
pub mod RetryLaws
pub mod JobLaws
pub mod NextLaws
pub mod RunLaws
pub mod BestMapLemmas
pub mod BytesLemmas
pub mod ReadingLemmas
pub mod RunLemmas
pub mod RunsAt
pub mod Tables
pub mod BitAtLemmas
pub mod BrokerLaws
mod RunRowsPaced
