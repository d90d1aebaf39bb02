pub mod Legacy
pub mod OfC
pub mod Pieces
pub mod Laws
pub mod Examples
