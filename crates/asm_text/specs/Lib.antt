pub mod Cuts
pub mod Lexical
pub mod Operands
pub mod Instructions
pub mod Lines
pub mod Assembly
pub mod Examples
pub mod Seen
