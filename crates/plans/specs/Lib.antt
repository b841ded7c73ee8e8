pub mod Made
pub mod Plan
pub mod PlanOk
pub mod Stores
