pub mod Draft
pub mod Refused
