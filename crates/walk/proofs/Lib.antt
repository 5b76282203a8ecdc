pub mod Binary
pub mod Mask
pub mod Row
pub mod Front
