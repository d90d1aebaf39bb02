pub mod StructLemmas
pub mod PartLemmas
pub mod ScalarLemmas
