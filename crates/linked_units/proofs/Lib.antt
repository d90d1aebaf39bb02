pub mod Lists
pub mod Told
pub mod Spots
pub mod Parts
pub mod Written
