pub mod Members
pub mod Segments
