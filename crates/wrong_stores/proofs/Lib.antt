pub mod TrialLaws
pub mod WrongLaws
