pub mod Words
pub mod Making
pub mod Tracing
pub mod Replies
