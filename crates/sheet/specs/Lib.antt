pub mod Format
pub mod Inside
pub mod Meant
