pub mod Alike
pub mod Linked
pub mod Linkage
pub mod Fields
pub mod Calls
pub mod Outside
