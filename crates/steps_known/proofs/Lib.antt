pub mod FunctionLemmas
pub mod StandingLemmas
