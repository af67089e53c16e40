pub mod Bits
pub mod Writes
pub mod Laws
