pub mod Functions
pub mod Parameters
