pub mod CleanLaws
