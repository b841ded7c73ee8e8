pub mod Call
pub mod Scene
pub mod Ladder
pub mod Reply
pub mod Outcome
pub mod Word
pub mod Opened
