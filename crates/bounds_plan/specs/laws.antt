-- What the laws say of all this, and the programs that are evaluated.
pub mod Laws
pub mod Roots
pub mod Worked
pub mod WorkedFlags
pub mod WorkedForms
pub mod WorkedRuns
pub mod WorkedSources
