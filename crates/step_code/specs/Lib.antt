pub mod Pieces
pub mod Steps
pub mod Homes
pub mod Asked
pub mod Bytes
pub mod Functions
pub mod Homing
pub mod Entry
