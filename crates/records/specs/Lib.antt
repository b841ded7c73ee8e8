pub mod Records
pub mod Areas
pub mod Fields
pub mod InBase
pub mod Address
pub mod WholeRecords
