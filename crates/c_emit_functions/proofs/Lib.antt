pub mod FunctionLemmas
pub mod ParameterLemmas
pub mod InsideLemmas
