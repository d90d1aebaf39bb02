pub mod Element
pub mod Member
