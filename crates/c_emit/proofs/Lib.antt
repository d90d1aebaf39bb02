pub mod Goes
pub mod Codes
pub mod Forms
pub mod Places
pub mod Calls
pub mod Walks
