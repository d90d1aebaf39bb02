pub mod Sizes
pub mod Spanning
