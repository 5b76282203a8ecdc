pub mod Critical
pub mod Inside
