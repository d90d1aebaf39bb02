pub mod Alu
