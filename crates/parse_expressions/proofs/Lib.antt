pub mod NoToken
pub mod Steps
pub mod Climbs
