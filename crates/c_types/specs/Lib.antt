pub mod Layouts
pub mod Shapes
pub mod Sound
pub mod Types
