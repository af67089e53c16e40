pub mod Slots
pub mod Layout
pub mod Entries
pub mod Placed
