pub mod Judged
pub mod HomeLaws
pub mod PointLaws
pub mod SignOnLaws
