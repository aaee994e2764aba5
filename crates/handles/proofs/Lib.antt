pub mod Rests
pub mod Values
pub mod Folds
