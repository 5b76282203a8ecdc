pub mod Reply
pub mod Inside
