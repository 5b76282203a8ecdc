pub mod Divide
pub mod Each
