pub mod Pushed
pub mod InnerPlaces
pub mod TightIfBurning
pub mod OneByOne
pub mod TurnsOfOdometer
