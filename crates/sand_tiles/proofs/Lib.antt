pub mod Bits
pub mod Moves
pub mod Around
pub mod Rounds
pub mod Ones
pub mod Rows
pub mod Common
