-- What only contracts inside the crate cite: no promise rests on it.
pub mod Steps
pub mod Entry
