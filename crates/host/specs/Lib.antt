pub mod Numbers
pub mod Value
pub mod Answers
pub mod Sheets
pub mod Places
pub mod Stored
