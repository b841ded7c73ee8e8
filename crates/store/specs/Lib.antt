pub mod Decides
pub mod BehindLaws
pub mod CallLaws
pub mod DecideLaws
pub mod Kinds
pub mod KindsLaws
pub mod TopLaws
