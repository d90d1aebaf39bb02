pub mod Borders
pub mod Compiled
pub mod CompiledExample
pub mod Entering
pub mod Examples
pub mod Functions
pub mod Levels
