pub mod Explain
