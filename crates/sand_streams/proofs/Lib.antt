pub mod StreamLengths
