pub mod Asks
pub mod AsksLaws
pub mod Ends
pub mod EndsLaws
pub mod FormFacts
