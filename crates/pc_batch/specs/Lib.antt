pub mod Fields
pub mod Headers
pub mod Record
pub mod Records
pub mod Grammar
pub mod Batch
