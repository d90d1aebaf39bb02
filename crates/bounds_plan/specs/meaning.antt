-- What C means: core trees and what they do.
pub mod State
pub mod Accesses
pub mod Core
pub mod Expressions
pub mod Statements
pub mod Functions
pub mod Outside
