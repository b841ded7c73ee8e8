pub mod Find
pub mod Root
pub mod Walks
