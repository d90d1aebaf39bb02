mod EarlyPrograms
mod EarlyRunning
mod EarlySteps
pub mod Stepping
pub mod Spreading
pub mod Rows
pub mod Frames
