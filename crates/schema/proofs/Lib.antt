pub mod PlaceLaws
pub mod FormFacts
pub mod RuleFacts
pub mod LayoutLaws
pub mod GuaranteeLaws
pub mod NamingLaws
