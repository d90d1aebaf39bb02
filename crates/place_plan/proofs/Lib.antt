pub mod Apart
mod Assembled
mod Checking
mod DataApart
pub mod Ends
mod KnownMembers
mod MemberTypes
mod PlannedData
mod PlannedFrames
mod Room
mod Targets
