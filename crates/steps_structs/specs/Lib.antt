pub mod Scalars
pub mod Structs
