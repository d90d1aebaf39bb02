pub mod Blocks
pub mod Joined
pub mod Lists
pub mod Rules
