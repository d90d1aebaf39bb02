-- The fat steps of core trees.
pub mod Code
pub mod Compiled
pub mod Sorts
pub mod Follows
