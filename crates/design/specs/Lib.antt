pub mod Count
pub mod Refusals
pub mod Tuples
pub mod Loss
pub mod Sheet
pub mod Shelf
pub mod inner
