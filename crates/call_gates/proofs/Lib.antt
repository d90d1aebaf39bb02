pub mod Sizes
pub mod Sound
pub mod Onward
pub mod Bytes
pub mod Made
pub mod Loops
