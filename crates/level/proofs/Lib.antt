pub mod Phases
pub mod Moving
pub mod Half
pub mod Onward
