pub mod Calls
pub mod Copying
mod Counting
mod Effects
mod Entry
mod Exprs
mod Flows
mod Keeps
mod Laid
pub mod Few
mod Fitting
mod FittingBodies
pub mod FittingItems
mod Waiting
mod WaitingBodies
pub mod WaitingItems
pub mod Homes
mod Inside
mod Fresh
mod Naming
mod NamingBodies
mod NamingItems
mod Once
mod Outside
mod Parts
mod Pieces
mod Rooted
pub mod RootedCalls
pub mod Roots
pub mod Runs
mod Sim
mod Sorts
mod Spans
mod Whole
mod Words
pub mod Worlds
