pub mod Line
pub mod Options
pub mod Asked
pub mod Fault
pub mod Spelling
pub mod Names
pub mod Requests
