pub mod Masked
pub mod Inside
