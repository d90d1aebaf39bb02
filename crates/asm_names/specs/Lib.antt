pub mod First
pub mod Found
pub mod Mnemonics
pub mod Registers
