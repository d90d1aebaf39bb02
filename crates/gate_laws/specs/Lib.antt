pub mod Moments
pub mod Placed
pub mod Effects
pub mod Standing
pub mod Crossings
pub mod Owed
pub mod Examples
