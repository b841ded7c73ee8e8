pub mod Parts
pub mod RulesLaws
