pub mod Seen
pub mod Around
