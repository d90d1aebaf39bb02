pub mod Around
pub mod Bodies
