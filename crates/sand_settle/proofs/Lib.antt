pub mod SiteLists
pub mod Underway
pub mod Records
pub mod Drops
pub mod Driven
pub mod NearSites
pub mod OneRecord
pub mod Common
