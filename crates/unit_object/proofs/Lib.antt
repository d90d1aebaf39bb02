pub mod Long
pub mod Unit
mod Given
