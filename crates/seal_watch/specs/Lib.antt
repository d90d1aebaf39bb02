pub mod Verdicts
pub mod Sealed
