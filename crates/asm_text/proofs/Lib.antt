pub mod CutLemmas
pub mod Evaluated
