pub mod Window
pub mod Inside
