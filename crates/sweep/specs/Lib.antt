pub mod Swept
pub mod SweptLaws
