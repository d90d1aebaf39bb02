pub mod Count
pub mod Formed
pub mod Names
pub mod Operators
pub mod Stars
