pub mod Reading
pub mod Rows
pub mod Run
pub mod Steps
