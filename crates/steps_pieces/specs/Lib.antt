pub mod Wanted
pub mod Operators
pub mod Own
pub mod Put
