pub mod Bytes
pub mod Quiet
pub mod Same
pub mod Going
pub mod Labels
pub mod Linker
pub mod Fields
