pub mod Units
pub mod Given
