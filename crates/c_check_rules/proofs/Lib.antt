pub mod NamedLemmas
pub mod Shapes
pub mod Values
