pub mod Terms
pub mod Status
pub mod Operation
pub mod Laws
