mod Judgements
pub mod Lists
mod Quiet
mod Rooms
pub mod Runs
mod Spans
pub mod Worlds
