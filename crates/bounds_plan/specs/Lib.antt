pub mod meaning
pub mod elaboration
pub mod steps
pub mod laws
