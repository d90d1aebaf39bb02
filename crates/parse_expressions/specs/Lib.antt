pub mod At
pub mod Gives
pub mod Levels
pub mod Fragments
