pub mod Ask
pub mod Inside
