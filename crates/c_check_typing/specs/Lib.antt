pub mod Refusals
pub mod Notes
pub mod Rules
pub mod Expressions
pub mod FaultText
