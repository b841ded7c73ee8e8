pub mod Form
pub mod FormLaws
