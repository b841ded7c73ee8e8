pub mod BodyLaws
pub mod FitLaws
pub mod MadeLaws
pub mod PlanLaws
