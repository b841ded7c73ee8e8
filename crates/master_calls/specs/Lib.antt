pub mod Masters
pub mod MasterLaws
pub mod CallLaws
