pub mod Log
pub mod Entries
pub mod Cursor
