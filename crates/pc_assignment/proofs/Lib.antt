pub mod EpochsLaws
