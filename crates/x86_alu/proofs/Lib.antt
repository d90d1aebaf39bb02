pub mod Dividing
pub mod Shifting
pub mod Widths
mod Signs
