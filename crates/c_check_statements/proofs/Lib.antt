pub mod Counting
pub mod Declaring
pub mod Filling
pub mod Forms
pub mod Steps
pub mod Blocks
pub mod Scopes
pub mod Marking
