pub mod Plans
pub mod Unlinked
