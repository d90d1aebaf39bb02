pub mod BlockLists
pub mod Heaps
pub mod Sinks
pub mod Serving
