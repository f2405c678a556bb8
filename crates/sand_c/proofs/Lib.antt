pub mod Answered
pub mod Chunks
pub mod ClassSteps
pub mod Common
pub mod Found
pub mod HandleSteps
pub mod Joins
pub mod LentSteps
pub mod ReadSteps
pub mod Readers
pub mod Records
pub mod SettledAt
pub mod Sites
pub mod Unfit
pub mod WaveLists
mod PartsSteps
