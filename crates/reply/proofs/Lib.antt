pub mod Refusals
pub mod Printing
pub mod Unique
