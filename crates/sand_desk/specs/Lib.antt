pub mod Answering
pub mod Commands
pub mod Drawing
pub mod Helping
pub mod Laboratory
