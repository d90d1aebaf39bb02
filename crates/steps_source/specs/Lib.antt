pub mod Around
pub mod Symbols
