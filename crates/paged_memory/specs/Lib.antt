pub mod Ends
pub mod Touched
pub mod Paged
pub mod Answers
pub mod Frames
pub mod Framed
pub mod Known
