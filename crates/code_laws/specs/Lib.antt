pub mod Views
pub mod Seen
pub mod Laid
pub mod Runs
