pub mod Decode
pub mod Entries
pub mod Pair
