pub mod Linear
pub mod Sound
pub mod Sets
