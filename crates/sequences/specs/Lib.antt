pub mod Sequence
pub mod Lost
pub mod Written
pub mod Touched
pub mod Copies
