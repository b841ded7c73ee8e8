pub mod FindLaws
pub mod WalkLaws
