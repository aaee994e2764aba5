pub mod Strings
pub mod Written
