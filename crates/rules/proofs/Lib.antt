pub mod Tests
pub mod Limited
pub mod Accepted
pub mod Stages
pub mod Replies
