pub mod OnPath
pub mod PathLaws
pub mod SeekLaws
pub mod CallLaws
pub mod OtherLaws
pub mod StoreLaws
