pub mod Scan
pub mod Wanted
pub mod ScanLaws
