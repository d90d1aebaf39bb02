-- The core trees of a source.
pub mod Types
pub mod Scalars
pub mod Source
pub mod Places
pub mod Expressions
pub mod Waits
pub mod Initialisers
pub mod Statements
pub mod Functions
pub mod Laws
