pub mod Fields
pub mod Varint
pub mod Crc
