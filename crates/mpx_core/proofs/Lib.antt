pub mod Views
pub mod Writing
pub mod StoredBounds
pub mod Doing
pub mod Low
pub mod Rows
