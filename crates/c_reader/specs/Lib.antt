pub mod EarlyFault
pub mod EarlyForm
pub mod EarlyMeaning
pub mod EarlyReading
pub mod Pieces
pub mod Refusals
pub mod Spelling
pub mod FaultText
