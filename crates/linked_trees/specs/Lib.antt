pub mod Called
pub mod Declared
