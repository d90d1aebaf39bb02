pub mod Assigned
pub mod Alone
pub mod Trees
pub mod Nodes
pub mod Homes
pub mod Wishes
