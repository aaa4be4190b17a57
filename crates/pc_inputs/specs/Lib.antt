pub mod Command
pub mod Words
pub mod Reading
pub mod Configuration
pub mod Plan
pub mod LogFault
pub mod ConfigFault
pub mod Status
