pub mod Endings
pub mod Helped
pub mod OneText
pub mod OneDropper
pub mod OwnTexts
pub mod WithoutLab
pub mod Common
