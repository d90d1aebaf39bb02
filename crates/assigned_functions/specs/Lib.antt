pub mod Assigned
pub mod Labels
