pub mod Divide
pub mod Little
