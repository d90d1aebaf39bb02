pub mod EarlyLaws
pub mod EarlyMachine
pub mod EarlyRuns
pub mod Framed
pub mod Steps
