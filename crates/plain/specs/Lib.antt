pub mod Plain
pub mod Inside
