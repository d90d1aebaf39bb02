pub mod FewStars
pub mod FormedLists
pub mod Inductions
pub mod Laid
