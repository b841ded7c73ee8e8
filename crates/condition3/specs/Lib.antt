pub mod Plain
pub mod Readings
pub mod Condition
pub mod Shown
