-- What only contracts inside the crate cite: no promise rests on it.
pub mod Stores
pub mod Blocks
pub mod Shapes
pub mod Judged
