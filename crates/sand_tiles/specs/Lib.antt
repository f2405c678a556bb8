pub mod Places
pub mod Counts
pub mod Rows
