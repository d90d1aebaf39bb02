pub mod Calls
pub mod Declared
