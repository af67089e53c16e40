-- What only contracts inside the crate cite: no promise rests on it.
pub mod Planes
pub mod Table
pub mod Tally
