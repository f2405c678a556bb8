pub mod Alone
pub mod Each
pub mod Entering
mod Examples
pub mod Free
pub mod HelpAlone
pub mod Levels
pub mod Passing
pub mod Reading
pub mod NumberTexts
pub mod Ranges
pub mod Spelled
pub mod Stopped
pub mod Taken
pub mod Usual
pub mod Walks
pub mod Within
pub mod Common
