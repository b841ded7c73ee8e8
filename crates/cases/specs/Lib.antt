pub mod Small
pub mod Cases
