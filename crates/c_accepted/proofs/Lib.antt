mod Apart
pub mod Bodies
mod Both
pub mod Closing
pub mod ClosingBodies
mod Copies
pub mod Declaring
pub mod Elaborating
pub mod Empty
pub mod Expressions
pub mod Filling
pub mod Framing
pub mod Gives
pub mod Going
pub mod Heads
pub mod Limits
mod Linking
mod Links
mod LiteralBodies
mod LiteralItems
mod LiteralStatements
mod Literals
mod Making
mod Meaning
mod Meeting
pub mod Moving
pub mod Naming
pub mod Numbering
pub mod Owns
mod Places
mod Planning
pub mod Small
pub mod Sizing
mod SizingNodes
pub mod Sourcing
pub mod Stating
pub mod Structures
mod Taking
pub mod Variables
pub mod Wholes
