pub mod Chains
pub mod Points
pub mod SideLaws
pub mod PlaceLaws
