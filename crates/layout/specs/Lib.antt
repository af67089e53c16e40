pub mod Text
pub mod Calls
pub mod Known
pub mod inner
