pub mod Limits
pub mod Fine
pub mod Serving
pub mod Sizes
pub mod Nodes
pub mod Parameters
