pub mod Probes
pub mod ProbeLaws
