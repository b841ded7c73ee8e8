pub mod Wrong
pub mod Twin
pub mod Trials
