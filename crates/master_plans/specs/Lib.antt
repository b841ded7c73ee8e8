pub mod Status
pub mod Shape
pub mod ShapeLaws
pub mod TestLaws
pub mod AddLaws
pub mod DelLaws
pub mod PointLaws
