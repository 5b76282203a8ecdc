pub mod Instants
pub mod Reckoning
pub mod Replies
