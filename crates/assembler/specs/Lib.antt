pub mod Sound
pub mod Held
pub mod Seen
pub mod Good
pub mod Told
