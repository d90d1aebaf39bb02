pub mod TextLemmas
pub mod ZeroLemmas
pub mod OneLemmas
pub mod FillLemmas
