pub mod Filled
pub mod Labelled
