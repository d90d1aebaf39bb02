pub mod EarlyProgram
pub mod EarlyChecks
