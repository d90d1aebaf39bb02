pub mod Objects
pub mod Accesses
