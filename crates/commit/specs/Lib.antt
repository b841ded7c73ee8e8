pub mod CommitLaws
pub mod DistinctLaws
pub mod StoreLaws
pub mod Touched
pub mod TouchedLaws
