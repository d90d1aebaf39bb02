pub mod Argued
